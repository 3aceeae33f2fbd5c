-- The mode of a place and the parentheses open there, told by the tokens before it (docs/reference/tokens.md,
-- "The token list of a text").
-- `before` has the ids of the tokens before a place, the last one first.
use Rattle.std.specs.Prelude.{ℕ, suc, ◌-◌, Bool, not, ◌||◌, if◌then◌else◌, ◌==◌, List, [], ◌∷◌, length, Option, Some, None}
use Rattle.std.specs.List.{find, list_any, take_while}
use Rattle.promql_token.specs.declared.ids.TheConstants.{T_COLON, T_LEFT_BRACE, T_LEFT_BRACKET, T_LEFT_PAREN, T_RIGHT_BRACE, T_RIGHT_BRACKET, T_RIGHT_PAREN}
use Rattle.promql_token.specs.declared.state.Bracket.TheVariants as bracket
use Rattle.promql_token.specs.declared.state.Mode.{Mode}
use Rattle.promql_token.specs.declared.state.Mode.TheVariants as mode
use Rattle.promql_token.specs.declared.state.State.{State}

-- how many tokens have this id
abbrev pub count_of : ℕ → List ℕ → ℕ
count_of id [] = 0
count_of id (k ∷ before) = if k == id then suc (count_of id before) else count_of id before

-- braces and brackets set a mode
abbrev pub is_bound : ℕ → Bool
is_bound id = id == T_LEFT_BRACE || id == T_RIGHT_BRACE || id == T_LEFT_BRACKET || id == T_RIGHT_BRACKET

-- by the last brace or bracket, and the tokens since
abbrev pub mode_by : Option ℕ → List ℕ → Mode
mode_by None since = mode.Outside
mode_by (Some id) since =
    if id == T_LEFT_BRACE then mode.Braces
    else (if id == T_LEFT_BRACKET then mode.Brackets (if list_any (λ k. k == T_COLON) since then bracket.Colon else (if length since == 0 then bracket.Nothing else bracket.Something))
    else mode.Outside)

abbrev pub mode_at : List ℕ → Mode
mode_at before = mode_by (find is_bound before) (take_while (λ id. not (is_bound id)) before)

-- as many parentheses are open as there are left ones more than right ones
abbrev pub state_at : List ℕ → State
state_at before = record { depth = count_of T_LEFT_PAREN before - count_of T_RIGHT_PAREN before; mode = mode_at before }

-- Where in a query a token is (docs/reference/targets.md, "Areas").
use Rattle.std.specs.Prelude.{ℕ, ◌==◌, Bool, true, false, ◌&&◌, ◌||◌, not, if◌then◌else◌, [], ◌∷◌}
use Rattle.std.specs.List.{list_any}
use Rattle.promql_grammar.specs.Symbols.{is_plus_or_minus}
use Rattle.promql_span.specs.Differences.{is_before_operand, stands_for}
use Rattle.promql_token.specs.declared.ids.TheConstants.{T_BY, T_COMMA, T_GROUP_LEFT, T_GROUP_RIGHT, T_IGNORING, T_LEFT_BRACE, T_LEFT_BRACKET, T_LEFT_PAREN, T_OFFSET, T_ON, T_RIGHT_BRACE, T_RIGHT_BRACKET, T_RIGHT_PAREN, T_WITHOUT}
use Rattle.promql_target.specs.declared.area.Area.{Area}
use Rattle.promql_target.specs.declared.area.Area.TheVariants as area
use Rattle.promql_target.specs.declared.area.Place.{Place}

abbrev pub has_labels : Area → Bool
has_labels area.Clause = true
has_labels area.Matching = true
has_labels a = false

abbrev pub is_open : Area → Bool
is_open area.Open = true
is_open a = false

abbrev pub is_brackets : Area → Bool
is_brackets area.Brackets = true
is_brackets a = false

-- an expression begins as after a parenthesis
abbrev pub start : Place
start = record { area = area.Open; before = T_LEFT_PAREN; in_offset = false }

-- the token that closes an area
abbrev pub closing : Area → ℕ
closing area.Braces = T_RIGHT_BRACE
closing area.Brackets = T_RIGHT_BRACKET
closing a = T_RIGHT_PAREN

-- what a token opens that has this one before it
abbrev pub opened : ℕ → ℕ → Area
opened before id =
    if id == T_LEFT_BRACE then area.Braces else
    if id == T_LEFT_BRACKET then area.Brackets else
    if id == T_LEFT_PAREN && list_any (λ k. before == k) (T_BY ∷ T_WITHOUT ∷ []) then area.Clause else
    if id == T_LEFT_PAREN && list_any (λ k. before == k) (T_ON ∷ T_IGNORING ∷ T_GROUP_LEFT ∷ T_GROUP_RIGHT ∷ []) then area.Matching
    else area.Open

-- an operand ends before the place
abbrev pub is_after_operand : Place → Bool
is_after_operand place = not (is_before_operand place.before || (place.before == T_GROUP_LEFT || place.before == T_GROUP_RIGHT))

-- a length of time comes
abbrev pub is_before_time : Place → Bool
is_before_time place = place.in_offset || is_brackets place.area

abbrev pub area_after : Place → ℕ → Area
area_after place id =
    if is_open place.area then opened place.before id else
    if id == closing place.area then area.Open else place.area

-- after the labels of an operator an operand comes, as after a comma
abbrev pub token_in : Area → ℕ → ℕ
token_in area.Matching id = if id == T_RIGHT_PAREN then T_COMMA else id
token_in a id = id

-- a word that is an operator elsewhere is a name where an operand begins
abbrev pub token_for : Place → ℕ → ℕ
token_for place id = if is_after_operand place then token_in place.area id else stands_for T_COMMA (token_in place.area id)

-- the `offset` before a time, or a sign after it
abbrev pub is_offset : Place → ℕ → Bool
is_offset place id = (id == T_OFFSET && (is_open place.area && is_after_operand place)) || (is_plus_or_minus id && place.in_offset)

abbrev pub after : Place → ℕ → Place
after place id = record { area = area_after place id; before = token_for place id; in_offset = is_offset place id }

-- The one way in which a text is trivia and tokens, to its end or to a fault (docs/reference/tokens.md,
-- "The token list of a text").
use Rattle.std.specs.Prelude.{◌≡◌, ℕ, ◌+◌, ◌==◌, if◌then◌else◌, List, [], ◌∷◌, ◌++◌, length, Result, Ok, Err}
use Rattle.promql_token.specs.declared.fault.LexFault.{LexFault}
use Rattle.promql_token.specs.declared.ids.TheConstants.{T_EOF, T_SPACE}
use Rattle.promql_token.specs.declared.lexeme.Lexeme.{Lexeme}
use Rattle.promql_token.specs.declared.state.Mode.TheVariants as mode
use Rattle.promql_token.specs.declared.state.State.{State}
use Rattle.promql_text.specs.Texts.{Text}
use Rattle.promql_token.specs.Begins.{MayBegin}
use Rattle.promql_token.specs.FaultPlaces.{IsFault}
use Rattle.promql_token.specs.Trivia.{IsTriviaIn}
use Rattle.promql_token.specs.Lexing.{fault_char}
use Rattle.promql_token.specs.States.{mode_at, state_at}

-- a trivia, and the id and the text of the token after it
abbrev pub Step : Type 0
Step = Text × ℕ × Text

-- the state after tokens with the ids `before` and this trivia: one that is not empty is something, as a space is
abbrev pub state_after : List ℕ → Text → State
state_after before g = state_at (if length g == 0 then before else T_SPACE ∷ before)

-- after tokens with the ids `before`, z is these trivia and tokens and then a rest
abbrev pub IsRead : (List ℕ → Text → Type 0) → List ℕ → Text → List Step → Type 0
IsRead Rest before z [] = Rest before z
IsRead Rest before z (t ∷ ts) =
    (r : Text) × (z ≡ t.0 ++ (t.2 ++ r)) × IsTriviaIn (mode_at before) t.0 (t.2 ++ r) × MayBegin (state_after before t.0).mode (state_after before t.0).depth t.1 t.2 r
    × IsRead Rest (t.1 ∷ before) r ts

-- the rest is a trivia to the end, where nothing is open
abbrev pub IsEnd : List ℕ → Text → Type 0
IsEnd before z = IsTriviaIn (mode_at before) z [] × (mode_at before ≡ mode.Outside) × ((state_at before).depth ≡ 0)

-- the rest is a trivia and this fault, in a text of this length
abbrev pub EndsIn : LexFault → ℕ → List ℕ → Text → Type 0
EndsIn f len before z =
    (g : Text) × (u : Text) × (v : Text) × (z ≡ g ++ (u ++ v)) × IsTriviaIn (mode_at before) g (u ++ v) × IsFault f.kind (state_after before g).mode (state_after before g).depth u v
    × (f.at + length v ≡ len) × (f.ch ≡ fault_char f.kind v)

-- the places of tokens from `at` on
abbrev pub places : ℕ → List Step → List Lexeme
places at [] = []
places at (t ∷ ts) = record { id = t.1; start = at + length t.0; len = length t.2 } ∷ places (at + length t.0 + length t.2) ts

-- with T_EOF at the text's end
abbrev pub to_end : Text → List Step → List Lexeme
to_end s ts = places 0 ts ++ record { id = T_EOF; start = length s; len = 0 } ∷ []

-- a text is read to its end, with these tokens, or up to this fault
abbrev pub IsLexed : Text → Result (List Lexeme) LexFault → Type 0
IsLexed s (Ok xs) = (ts : List Step) × IsRead IsEnd [] s ts × (xs ≡ to_end s ts)
IsLexed s (Err f) = (ts : List Step) × IsRead (EndsIn f (length s)) [] s ts

-- Tokens that a printer writes, before what follows them: the statements of lemmas. Private: nothing rests on believing it.
use Rattle.std.specs.Prelude.{◌≡◌, ℕ, ◌<◌, Bool, true, false, ◌==◌, List, [], ◌∷◌, ◌++◌, length, Ok}
use Rattle.std.specs.Char.{is_ascii_digit}
use Rattle.std.specs.List.{concat, list_all}
use Rattle.promql_token.specs.declared.ids.TheConstants.{T_DURATION, T_NUMBER, T_STRING}
use Rattle.promql_token.specs.declared.state.Mode.{Mode}
use Rattle.promql_token.specs.declared.state.Mode.TheVariants as mode
use Rattle.promql_token.specs.declared.state.State.{State}
use Rattle.promql_text.specs.Texts.{Text, code}
use Rattle.promql_token.specs.Laws.{stops_numeral}
use Rattle.promql_token.specs.Lexing.{pieces}
use Rattle.promql_token.specs.TokenScanning.{is_quote, after}
pub use Rattle.promql_token.specs.Vocabulary.{holds_strings, is_part, is_spelling, parts_text}

-- ---- strings

abbrev pub quote_parts : ℕ → List Text → Text
quote_parts quote ps = quote ∷ (concat ps ++ quote ∷ [])

-- a string of such spellings is a token before any text
abbrev pub JoinsString : Type 0
JoinsString = (state : State) (quote : ℕ) (ps : List Text) (r : Text) → holds_strings state.mode ≡ true → is_quote quote ≡ true → (quote == code "`") ≡ false
    → list_all (is_spelling quote) ps ≡ true → pieces state (quote_parts quote ps ++ r) ≡ Ok (T_STRING, quote_parts quote ps) ∷ pieces (after state T_STRING) r

-- ---- numbers

-- numerals are outside and in brackets
abbrev pub holds_numerals : Mode → Bool
holds_numerals mode.Outside = true
holds_numerals mode.Braces = false
holds_numerals (mode.Brackets inside) = true

abbrev pub are_digits : Text → Bool
are_digits w = list_all is_ascii_digit w

-- digits, and a point with digits where there are some
abbrev pub decimal : Text → Text → Text
decimal whole [] = whole
decimal whole (b ∷ fraction) = whole ++ code "." ∷ b ∷ fraction

-- a decimal number without exponent is a token
abbrev pub JoinsNumber : Type 0
JoinsNumber = (state : State) (whole fraction r : Text) → holds_numerals state.mode ≡ true → 0 < length whole → are_digits whole ≡ true → are_digits fraction ≡ true
    → let w = decimal whole fraction in stops_numeral w r ≡ true → pieces state (w ++ r) ≡ Ok (T_NUMBER, w) ∷ pieces (after state T_NUMBER) r

-- ---- durations

-- such parts, the first one with any unit, are a token
abbrev pub JoinsDuration : Type 0
JoinsDuration = (state : State) (p : Text × Text) (ps : List (Text × Text)) (r : Text) → holds_numerals state.mode ≡ true → is_part true p ≡ true → list_all (is_part false) ps ≡ true
    → let w = parts_text (p ∷ ps) in stops_numeral w r ≡ true → pieces state (w ++ r) ≡ Ok (T_DURATION, w) ∷ pieces (after state T_DURATION) r

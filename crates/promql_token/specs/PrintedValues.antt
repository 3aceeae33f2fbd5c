-- Values that printers write, before what follows them: the statements of lemmas. Private: nothing rests on believing it.
use Rattle.std.specs.Prelude.{◌≡◌, ℕ, ◌*◌, ◌^◌, ◌%◌, ◌<◌, true, false, ◌==◌, if◌then◌else◌, ◌∷◌, ◌++◌, slice_index, Ok}
use Rattle.promql_text.specs.Durations.{nanos_of}
use Rattle.promql_text.specs.DurationText.{duration_text}
use Rattle.promql_text.specs.NumberText.{number_text}
use Rattle.promql_text.specs.Quoting.{quoted_text}
use Rattle.promql_text.specs.Texts.{Text, code}
use Rattle.promql_text.specs.Values.{IsNumber, is_below_zero}
use Rattle.promql_text.specs.declared.duration.Unit.TheVariants.{Milli}
use Rattle.promql_text.specs.declared.number.Number.{Number}
use Rattle.promql_token.specs.declared.ids.TheConstants.{T_DURATION, T_NUMBER, T_STRING}
use Rattle.promql_token.specs.declared.state.Mode.TheVariants as mode
use Rattle.promql_token.specs.declared.state.State.{State}
use Rattle.promql_token.specs.Laws.{stops_numeral}
use Rattle.promql_token.specs.Lexing.{pieces}
use Rattle.promql_token.specs.TokenScanning.{after}
use Rattle.promql_token.specs.Printed.{holds_numerals, holds_strings}

-- a quoted text is a string, before any text
abbrev pub JoinsQuoted : Type 0
JoinsQuoted = (state : State) (s r : Text) → holds_strings state.mode ≡ true → pieces state (quoted_text s ++ r) ≡ Ok (T_STRING, quoted_text s) ∷ pieces (after state T_STRING) r

-- the text of a number that is not below zero is a number, where it is outside and nothing goes on with it
abbrev pub JoinsNumberText : Type 0
JoinsNumberText = (depth : ℕ) (v : Number) (r : Text) → IsNumber v → is_below_zero v ≡ false → stops_numeral (number_text v) r ≡ true → (slice_index r 0 == code ":") ≡ false
    → let state : State = record { depth = depth; mode = mode.Outside } in pieces state (number_text v ++ r) ≡ Ok (T_NUMBER, number_text v) ∷ pieces state r

-- whole milliseconds print as a duration, all others as a number
abbrev pub time_id : ℕ → ℕ
time_id n = if n % nanos_of Milli == 0 then T_DURATION else T_NUMBER

-- the text of a duration above zero is a duration or a number
abbrev pub JoinsTime : Type 0
JoinsTime = (state : State) (n : ℕ) (r : Text) → holds_numerals state.mode ≡ true → 0 < n → n < 2 ^ 64 * 1_000_000_000 → stops_numeral (duration_text n) r ≡ true
    → pieces state (duration_text n ++ r) ≡ Ok (time_id n, duration_text n) ∷ pieces (after state (time_id n)) r

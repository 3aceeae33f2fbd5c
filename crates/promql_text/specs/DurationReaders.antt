-- How the code reads the parts of a duration (private: nothing rests on believing it).
use Rattle.std.specs.Prelude.{◌≡◌, ℕ, ◌+◌, ◌-◌, ◌*◌, ◌^◌, ◌<◌, min, true, false, if◌then◌else◌, List, [], ◌∷◌, ◌++◌, length, Option, Some, None, option_map, Result}
use Rattle.std.specs.Char.{is_ascii_digit}
use Rattle.std.specs.Duration.{as_nanos}
use Rattle.std.specs.Result.{result_map_both}
use Rattle.std.specs.declared.time.Duration.{Duration}
use Rattle.std.specs.Str.{bytes_eq}
use Rattle.std.specs.Str.Parse.{AllDigits, digits_value}
use Rattle.std.proofs.Common.{Bor}
use Rattle.promql_text.specs.DecimalForm.{front, digit_run, past_run}
use Rattle.promql_text.specs.Durations.{nanos_of, word_of, parts_nanos}
use Rattle.promql_text.specs.Texts.{Text}
use Rattle.promql_text.specs.declared.duration.DurationFault.{DurationFault}
use Rattle.promql_text.specs.declared.duration.Unit.{Unit}
use Rattle.promql_text.specs.declared.duration.Unit.TheVariants.{Day, Hour, Minute, Second, Milli}

-- the result is what was said: a duration of that many nanoseconds, or that fault
abbrev pub GivesDuration : Result Duration DurationFault → Result ℕ DurationFault → Type 0
GivesDuration r said = said ≡ result_map_both as_nanos (λ f. f) r

-- a count, as digits, and its unit
abbrev pub Part : Type 0
Part = Text × Unit

abbrev pub IsCount : Text → Type 0
IsCount ds = (0 < length ds) × AllDigits 10 ds

-- the text of parts, and their nanoseconds together
abbrev pub parts_text : List Part → Text
parts_text [] = []
parts_text (p ∷ ps) = p.0 ++ (word_of p.1 ++ parts_text ps)

abbrev pub parts_sum : List Part → ℕ
parts_sum [] = 0
parts_sum (p ∷ ps) = digits_value 10 p.0 * nanos_of p.1 + parts_sum ps

-- the units of the text of a duration that is no whole number of weeks or years
abbrev pub short_units : List Unit
short_units = Day ∷ Hour ∷ Minute ∷ Second ∷ Milli ∷ []

-- what saturating arithmetic leaves of a number
abbrev pub cap_u128 : ℕ → ℕ
cap_u128 n = min n (2 ^ 128 - 1)

-- a reader of digits, which gives their number, capped, with the rest
abbrev pub ReadsCount : Text → Option (ℕ × Bor Text) → Type 0
ReadsCount s None = is_ascii_digit (front s) ≡ false
ReadsCount s (Some r) = (is_ascii_digit (front s) ≡ true) × (r.0 ≡ cap_u128 (digits_value 10 (digit_run s))) × (r.1.now ≡ past_run s)

-- the first of the units with a word, and the units after it
abbrev pub seek : List Unit → Text → Option (Unit × List Unit)
seek [] w = None
seek (u ∷ us) w = if bytes_eq w (word_of u) then Some (u, us) else seek us w

abbrev pub FindsUnit : List Unit → Text → Option (Unit × Bor (List Unit)) → Type 0
FindsUnit us w None = seek us w ≡ None
FindsUnit us w (Some r) = seek us w ≡ Some (r.0, r.1.now)

-- a reader of a part in one of the units: its nanoseconds, capped, the units after its own, and the rest
abbrev pub TakesPart : List Unit → Text → Option (ℕ × Bor (List Unit) × Bor Text) → Type 0
TakesPart us s None = parts_nanos us s ≡ None
TakesPart us s (Some r) =
    ((total : ℕ) → option_map (λ n. cap_u128 (cap_u128 (total + r.0) + n)) (parts_nanos r.1.now r.2.now) ≡ option_map (λ n. cap_u128 (total + n)) (parts_nanos us s))
    × (length r.2.now < length s)

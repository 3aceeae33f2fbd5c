-- The duration of a text, as a whole number of nanoseconds: docs/reference/texts.md, "Durations".
use Rattle.std.specs.Prelude.{ℕ, ◌+◌, ◌*◌, ◌/◌, ◌%◌, ◌^◌, Bool, not, if◌then◌else◌, ◌==◌, ◌&&◌, nat_lt, List, [], ◌∷◌, length, take, drop, codes, Option, Some, None, option_map, Result, Ok, Err}
use Rattle.std.specs.Char.{is_ascii_digit}
use Rattle.std.specs.List.{prefix_len}
use Rattle.std.specs.Str.{bytes_eq}
use Rattle.std.specs.Str.Parse.{digits_value}
use Rattle.promql_text.specs.Texts.{Text}
use Rattle.promql_text.specs.DecimalForm.{front, digit_run, past_run, Numeral, Reading, NotANumber, Infinite, Signed, decimal_form, digits_number, places, exponent_size}
use Rattle.promql_text.specs.DecimalForm as form
use Rattle.promql_text.specs.declared.duration.Unit.{Unit}
use Rattle.promql_text.specs.declared.duration.Unit.TheVariants.{Year, Week, Day, Hour, Minute, Second, Milli}
use Rattle.promql_text.specs.declared.duration.DurationFault.{DurationFault}
use Rattle.promql_text.specs.declared.duration.DurationFault.TheVariants as fault

-- "Units": their nanoseconds, and their words
abbrev pub nanos_of : Unit → ℕ
nanos_of Year = 31_536_000_000_000_000
nanos_of Week = 604_800_000_000_000
nanos_of Day = 86_400_000_000_000
nanos_of Hour = 3_600_000_000_000
nanos_of Minute = 60_000_000_000
nanos_of Second = 1_000_000_000
nanos_of Milli = 1_000_000

abbrev pub word_of : Unit → Text
word_of Year = codes "y"
word_of Week = codes "w"
word_of Day = codes "d"
word_of Hour = codes "h"
word_of Minute = codes "m"
word_of Second = codes "s"
word_of Milli = codes "ms"

-- the units in the order in which parts may come
unfoldable pub units : List Unit
units = Year ∷ Week ∷ Day ∷ Hour ∷ Minute ∷ Second ∷ Milli ∷ []

-- what comes before the next digit, and what comes from there on
abbrev pub is_no_digit : ℕ → Bool
is_no_digit b = not (is_ascii_digit b)

abbrev pub word_run : Text → Text
word_run s = take (prefix_len is_no_digit s) s

abbrev pub past_word : Text → Text
past_word s = drop (prefix_len is_no_digit s) s

-- "Parts": the text begins with one or more digits and the unit's word, which goes up to a digit or to the end
abbrev pub begins_part : Unit → Text → Bool
begins_part u s = is_ascii_digit (front s) && bytes_eq (word_run (past_run s)) (word_of u)

-- "Parts": the nanoseconds of a text that is, for each of the units in turn, a part or nothing
abbrev pub parts_nanos : List Unit → Text → Option ℕ
parts_nanos [] s = if length s == 0 then Some 0 else None
parts_nanos (u ∷ us) s =
    if begins_part u s then option_map (λ n. digits_value 10 (digit_run s) * nanos_of u + n) (parts_nanos us (past_word (past_run s)))
    else parts_nanos us s

-- "Rounding": w and r of b parts, to the nearest whole number, a tie to the even one
abbrev pub round_half_even : ℕ → ℕ → ℕ → ℕ
round_half_even w r b = if nat_lt (r * 2) b then w else (if r * 2 == b then w + w % 2 else w + 1)

-- the quotient, rounded
unfoldable pub nearest : ℕ → ℕ → ℕ
nearest a b = round_half_even (a / b) (a % b) b

-- "Seconds": the nanoseconds of a numeral of seconds
unfoldable pub second_nanos : Numeral → ℕ
second_nanos n =
    if n.is_down then nearest (digits_number n * 10 ^ 9) (10 ^ (places n + exponent_size n))
    else nearest (digits_number n * 10 ^ (9 + exponent_size n)) (10 ^ places n)

-- "Range": above zero, and no more than the greatest duration
abbrev pub in_range : ℕ → Result ℕ DurationFault
in_range n =
    if n == 0 then Err fault.NotPositive
    else (if nat_lt n (2 ^ 64 * 1_000_000_000) then Ok n else Err fault.Overflow)

abbrev pub of_seconds : Bool → Reading → Result ℕ DurationFault
of_seconds is_negative NotANumber = Err fault.Invalid
of_seconds is_negative Infinite = if is_negative then Err fault.NotPositive else Err fault.Overflow
of_seconds is_negative (form.Finite n) = if is_negative then Err fault.NotPositive else in_range (second_nanos n)

abbrev pub of_parts : Option ℕ → Result ℕ DurationFault
of_parts None = Err fault.Invalid
of_parts (Some n) = in_range n

abbrev pub of_form : Option Signed → Text → Result ℕ DurationFault
of_form (Some f) s = of_seconds f.is_negative f.reading
of_form None s = of_parts (parts_nanos units s)

-- the duration of a text
unfoldable pub duration_of : Text → Result ℕ DurationFault
duration_of s = if length s == 0 then Err fault.Empty else of_form (decimal_form s) s

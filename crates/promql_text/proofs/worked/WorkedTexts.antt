-- The worked texts, by computing what is told of them.
use Rattle.std.proofs.Common.{◌≡◌, ℕ, true, false, Result, Ok, Err, refl}
use Rattle.std.specs.Prelude.{codes}
use Rattle.std.specs.Fmt.{digits}
use Rattle.std.specs.Str.{chars}
use Rattle.promql_text.specs.Texts.{Text}
use Rattle.promql_text.specs.DecimalForm.{numeral, reading, decimal_form}
use Rattle.promql_text.specs.Durations.{duration_of, nearest, second_nanos, units}
use Rattle.promql_text.specs.DurationForms.{IsDuration}
use Rattle.promql_text.specs.TextRows.{ExampleDurations, ExampleNumbers, finite}
use Rattle.promql_text.specs.NumberForms.{IsNumberText}
use Rattle.promql_text.specs.NumberText as text
use Rattle.promql_text.specs.NumberText.{without_whitespace, read_number, number_of, radix_number}
use Rattle.promql_text.specs.declared.duration.DurationFault.{DurationFault}
use Rattle.promql_text.specs.declared.duration.DurationFault.TheVariants.{Empty, NotPositive, Invalid, Overflow}
use Rattle.promql_text.specs.declared.number.Number.{Number}
use Rattle.promql_text.specs.declared.number.Number.TheVariants as number
use Rattle.promql_text.specs.declared.number.NumberFault.{NumberFault}
use Rattle.promql_text.specs.declared.number.NumberFault.TheVariants.{NotANumber, OutOfRange, TooManyDigits}
use Rattle.promql_text.proofs.durations.DurationRelation.{durations_told}
use Rattle.promql_text.proofs.numbers.NumberRelation.{numbers_told}

row : (s : Text) (r : Result ℕ DurationFault) → duration_of s ≡ r → IsDuration s r
row s r is = (durations_told s r).0 is

pub worked_durations : ExampleDurations
unfolding duration_of decimal_form reading numeral second_nanos nearest units
worked_durations = record {
  parts = row (codes "373d1h1m1s1ms") (Ok 32230861001000000) refl;
  year = row (codes "1y") (Ok 31536000000000000) refl;
  week = row (codes "1w") (Ok 604800000000000) refl;
  days = row (codes "8d") (Ok 691200000000000) refl;
  seconds = row (codes "0.0001") (Ok 100000) refl;
  greatest = row (codes "18446744073709551615.999999999") (Ok 18446744073709551615999999999) refl;
  zero_seconds = row (codes "0s") (Err NotPositive) refl;
  rounded_up = row (codes "0.00000000050000000001") (Ok 1) refl;
  rounded_down = row (codes "0.0000000005") (Err NotPositive) refl;
  tiny = row (codes "1e-400") (Err NotPositive) refl;
  minus_zero = row (codes "-0") (Err NotPositive) refl;
  past = row (codes "18446744073709551615.9999999999") (Err Overflow) refl;
  infinite = row (codes "Inf") (Err Overflow) refl;
  not_a_number = row (codes "-nan") (Err Invalid) refl;
  twice = row (codes "1s1s") (Err Invalid) refl;
  no_unit = row (codes "1hs") (Err Invalid) refl;
  order = row (codes "1y1m1d") (Err Invalid) refl;
  point = row (codes "1.5d") (Err Invalid) refl;
  no_count = row (codes "d") (Err Invalid) refl;
  minus = row (codes "-1w") (Err Invalid) refl;
  hexadecimal = row (codes "0x1F") (Err Invalid) refl;
  empty = row (codes "") (Err Empty) refl;
}

number_row : (s : Text) (r : Result Number NumberFault) → read_number s ≡ r → IsNumberText (without_whitespace s) r
number_row s r is = (numbers_told s r).0 is

pub worked_numbers : ExampleNumbers
unfolding chars number_of text.hexadecimal radix_number decimal_form reading numeral text.finite digits
worked_numbers = record {
  spaced = number_row (codes "1 000") (finite false 1 3 0) refl;
  hexadecimal = number_row (codes "- 0X2f ") (finite true 47 0 0) refl;
  greatest = number_row (codes "0x7FFFFFFFFFFFFFFF") (finite false 9223372036854775807 0 0) refl;
  too_great = number_row (codes "0x8000000000000000") (Err OutOfRange) refl;
  sign_inside = number_row (codes "0x-1") (Err NotANumber) refl;
  octal = number_row (codes "-017") (finite true 15 0 0) refl;
  octal_exponent = number_row (codes "0e5") (Err NotANumber) refl;
  decimal_eight = number_row (codes "08") (finite false 8 0 0) refl;
  decimal_nine = number_row (codes "-089") (finite true 89 0 0) refl;
  fraction = number_row (codes "-1.50e-3") (finite true 15 0 4) refl;
  smallest = number_row (codes "1e-324") (finite false 1 0 324) refl;
  too_small = number_row (codes "1e-325") (Err OutOfRange) refl;
  zero_far = number_row (codes "-0.0e99999999999999999999") (finite false 0 0 0) refl;
  long = number_row (codes "999999999999999999999999999999999999990000000000") (finite false 99999999999999999999999999999999999999 10 0) refl;
  too_long = number_row (codes "100000000000000000000000000000000000001e999") (Err TooManyDigits) refl;
  minus_infinity = number_row (codes "-iNFinity") (Ok number.NegInf) refl;
  not_a_number = number_row (codes "-nan") (Ok number.NaN) refl;
  no_number = number_row (codes "1.e") (Err NotANumber) refl;
}

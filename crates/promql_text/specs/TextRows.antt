-- What the relations say of worked texts (docs/reference/texts.md, "The number of a text" and
-- "The duration of a text").
use Rattle.std.specs.Prelude.{ℕ, Bool, true, false, codes, Result, Ok, Err}
use Rattle.promql_text.specs.DurationForms.{IsDuration}
use Rattle.promql_text.specs.NumberForms.{IsNumberText}
use Rattle.promql_text.specs.NumberText.{without_whitespace}
use Rattle.promql_text.specs.declared.number.Number.{Number}
use Rattle.promql_text.specs.declared.number.Number.TheVariants as number
use Rattle.promql_text.specs.declared.number.NumberFault.{NumberFault}
use Rattle.promql_text.specs.declared.number.NumberFault.TheVariants.{NotANumber, OutOfRange, TooManyDigits}
use Rattle.promql_text.specs.declared.duration.DurationFault.TheVariants.{Empty, NotPositive, Invalid, Overflow}

pub record ExampleDurations : Type 0 where
  pub parts : IsDuration (codes "373d1h1m1s1ms") (Ok 32_230_861_001_000_000)
  pub year : IsDuration (codes "1y") (Ok 31_536_000_000_000_000)
  pub week : IsDuration (codes "1w") (Ok 604_800_000_000_000)
  pub days : IsDuration (codes "8d") (Ok 691_200_000_000_000)
  pub seconds : IsDuration (codes "0.0001") (Ok 100_000)
  pub greatest : IsDuration (codes "18446744073709551615.999999999") (Ok 18_446_744_073_709_551_615_999_999_999)
  pub zero_seconds : IsDuration (codes "0s") (Err NotPositive)
  pub rounded_up : IsDuration (codes "0.00000000050000000001") (Ok 1)
  pub rounded_down : IsDuration (codes "0.0000000005") (Err NotPositive)
  pub tiny : IsDuration (codes "1e-400") (Err NotPositive)
  pub minus_zero : IsDuration (codes "-0") (Err NotPositive)
  pub past : IsDuration (codes "18446744073709551615.9999999999") (Err Overflow)
  pub infinite : IsDuration (codes "Inf") (Err Overflow)
  pub not_a_number : IsDuration (codes "-nan") (Err Invalid)
  pub twice : IsDuration (codes "1s1s") (Err Invalid)
  pub no_unit : IsDuration (codes "1hs") (Err Invalid)
  pub order : IsDuration (codes "1y1m1d") (Err Invalid)
  pub point : IsDuration (codes "1.5d") (Err Invalid)
  pub no_count : IsDuration (codes "d") (Err Invalid)
  pub minus : IsDuration (codes "-1w") (Err Invalid)
  pub hexadecimal : IsDuration (codes "0x1F") (Err Invalid)
  pub empty : IsDuration (codes "") (Err Empty)

abbrev pub finite : Bool → ℕ → ℕ → ℕ → Result Number NumberFault
finite is_negative c zeros places = Ok (number.Finite (record { is_negative = is_negative; digits = c; zeros = zeros; places = places }))

pub record ExampleNumbers : Type 0 where
  pub spaced : IsNumberText (without_whitespace (codes "1 000")) (finite false 1 3 0)
  pub hexadecimal : IsNumberText (without_whitespace (codes "- 0X2f ")) (finite true 47 0 0)
  pub greatest : IsNumberText (without_whitespace (codes "0x7FFFFFFFFFFFFFFF")) (finite false 9_223_372_036_854_775_807 0 0)
  pub too_great : IsNumberText (without_whitespace (codes "0x8000000000000000")) (Err OutOfRange)
  pub sign_inside : IsNumberText (without_whitespace (codes "0x-1")) (Err NotANumber)
  pub octal : IsNumberText (without_whitespace (codes "-017")) (finite true 15 0 0)
  pub octal_exponent : IsNumberText (without_whitespace (codes "0e5")) (Err NotANumber)
  pub decimal_eight : IsNumberText (without_whitespace (codes "08")) (finite false 8 0 0)
  pub decimal_nine : IsNumberText (without_whitespace (codes "-089")) (finite true 89 0 0)
  pub fraction : IsNumberText (without_whitespace (codes "-1.50e-3")) (finite true 15 0 4)
  pub smallest : IsNumberText (without_whitespace (codes "1e-324")) (finite false 1 0 324)
  pub too_small : IsNumberText (without_whitespace (codes "1e-325")) (Err OutOfRange)
  pub zero_far : IsNumberText (without_whitespace (codes "-0.0e99999999999999999999")) (finite false 0 0 0)
  pub long : IsNumberText (without_whitespace (codes "999999999999999999999999999999999999990000000000")) (finite false 99_999_999_999_999_999_999_999_999_999_999_999_999 10 0)
  pub too_long : IsNumberText (without_whitespace (codes "100000000000000000000000000000000000001e999")) (Err TooManyDigits)
  pub minus_infinity : IsNumberText (without_whitespace (codes "-iNFinity")) (Ok number.NegInf)
  pub not_a_number : IsNumberText (without_whitespace (codes "-nan")) (Ok number.NaN)
  pub no_number : IsNumberText (without_whitespace (codes "1.e")) (Err NotANumber)

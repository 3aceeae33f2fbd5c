-- Digits that are read one by one and rounded at a point among or after them
-- (private: nothing rests on believing it).
use Rattle.std.specs.Prelude.{◌≡◌, ℕ, ◌+◌, ◌-◌, ◌*◌, ◌/◌, ◌^◌, ◌<◌, if◌then◌else◌, nat_le, length, take, drop, true, false, Option, Some, None}
use Rattle.std.specs.Str.Parse.{digits_value}
use Rattle.promql_text.specs.Texts.{Text}
use Rattle.promql_text.specs.DecimalForm.{Numeral, exponent_size}
use Rattle.promql_text.specs.Durations.{nearest}
use Rattle.promql_text.specs.DurationReaders.{cap_u128}
use Rattle.promql_text.specs.declared.seconds.Digits.{Digits}
use Rattle.promql_text.specs.declared.seconds.RoundingTail.{RoundingTail}
use Rattle.promql_text.specs.declared.seconds.RoundingTail.TheVariants.{Empty, Below, Half, Above}

-- the number of the digits, with the point after the first n of them, rounded
unfoldable pub at_point : ℕ → Text → ℕ
at_point n ds =
    if nat_le (length ds) n then digits_value 10 ds * 10 ^ (n - length ds)
    else nearest (digits_value 10 ds) (10 ^ (length ds - n))

-- n divided by d, rounded to the nearest whole number, a half up
abbrev pub round_half_up : ℕ → ℕ → ℕ
round_half_up n d = (2 * n + d) / (2 * d)

-- how a number compares with another
abbrev pub Compares : RoundingTail → ℕ → ℕ → Type 0
Compares Empty a b = ⊥
Compares Below a b = a < b
Compares Half a b = a ≡ b
Compares Above a b = b < a

-- how the digits after the point compare with a half
abbrev pub IsTail : RoundingTail → Text → Type 0
IsTail t ds = (0 < length ds) × Compares t (digits_value 10 ds) (5 * 10 ^ (length ds - 1))

abbrev pub ComparesHalf : RoundingTail → Text → Type 0
ComparesHalf Empty ds = length ds ≡ 0
ComparesHalf Below ds = IsTail Below ds
ComparesHalf Half ds = IsTail Half ds
ComparesHalf Above ds = IsTail Above ds

-- what has been kept of the digits that were read, with the point after the first n of them
pub record HasRead (n : ℕ) (ds : Text) (d : Digits) : Type 0 where
  pub to_point : d.to_point ≡ n - length ds
  pub whole : d.whole ≡ cap_u128 (digits_value 10 (take n ds))
  pub tail : ComparesHalf d.tail (drop n ds)

-- after how many of a numeral's digits the point of its nanoseconds is
abbrev pub PlacesPoint : Numeral → Option ℕ → Type 0
PlacesPoint n None = (n.is_down ≡ true) × (length n.whole + 9 < exponent_size n)
PlacesPoint n (Some p) =
    (n.is_down ≡ true → p + exponent_size n ≡ length n.whole + 9)
    × (n.is_down ≡ false → p ≡ cap_u128 (length n.whole + 9 + exponent_size n))

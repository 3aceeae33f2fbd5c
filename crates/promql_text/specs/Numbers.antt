-- Exact decimal numbers (docs/reference/texts.md, "Numbers").
use Rattle.std.specs.Prelude.{◌≡◌, ℕ, zero, suc, ◌+◌, ◌-◌, ◌/◌, ◌%◌, ◌^◌, ◌<◌, ◌≤◌, Bool, false, not, ◌&&◌, if◌then◌else◌, ◌==◌, nat_le, length, Option, Some, None}
use Rattle.std.specs.Fmt.{decimal}

-- A finite number is its digits, read as a whole number, times 10 to `zeros`, divided by 10 to `places`.
pub record Exact : Type 0 where
  pub is_negative : Bool
  pub digits : ℕ
  pub zeros : ℕ
  pub places : ℕ

-- how many decimal digits a whole number has; zero has one
abbrev pub digit_count : ℕ → ℕ
digit_count n = length (decimal n)

-- Each number has one such form: its digits end in no zero, it has zeros after its digits or places after the point
-- and not both, and there is one zero. It has at most 38 digits, and the first of them is at a place from 10^-324 to 10^308.
pub record IsExact (d : Exact) : Type 0 where
  pub short : d.digits < 10 ^ 38
  pub ends : d.digits % 10 ≡ 0 → d.digits ≡ 0
  pub one_zero : d.digits ≡ 0 → (d.is_negative ≡ false) × (d.zeros ≡ 0) × (d.places ≡ 0)
  pub one_side : 0 < d.places → d.zeros ≡ 0
  pub below : length (decimal d.digits) + d.zeros ≤ 309 + d.places
  pub above : d.places ≤ length (decimal d.digits) + d.zeros + 323

abbrev pub exact_zero : Exact
exact_zero = record { is_negative = false; digits = 0; zeros = 0; places = 0 }

-- how often 10 divides a number above zero; `most` is at least the answer
abbrev pub tens : ℕ → ℕ → ℕ
tens zero n = 0
tens (suc most) n = if n % 10 == 0 then suc (tens most (n / 10)) else 0

-- the first digit of c, times 10 to `up`, divided by 10 to `down`, is at a place from 10^-324 to 10^308
abbrev pub is_in_range : ℕ → ℕ → ℕ → Bool
is_in_range c up down = nat_le (digit_count c + up) (309 + down) && nat_le down (digit_count c + up + 323)

-- c, which ends in no zero, times 10 to `up`, divided by 10 to `down`
abbrev pub exact_quotient : Bool → ℕ → ℕ → ℕ → Exact
exact_quotient is_negative c up down = record { is_negative = is_negative; digits = c; zeros = up - down; places = down - up }

-- the same, where it is a number
abbrev pub from_digits : Bool → ℕ → ℕ → ℕ → Option Exact
from_digits is_negative c up down =
    if c == 0 then Some exact_zero else (if is_in_range c up down then Some (exact_quotient is_negative c up down) else None)

-- a whole number below 2^64, which has at most 20 digits
abbrev pub whole : Bool → ℕ → Exact
whole is_negative n = let z = tens 20 n in if n == 0 then exact_zero else exact_quotient is_negative (n / 10 ^ z) z 0

-- the seconds of a number of nanoseconds below 2^64 * 10^9, which has at most 29 digits
abbrev pub seconds_of : ℕ → Exact
seconds_of n = let z = tens 29 n in if n == 0 then exact_zero else exact_quotient false (n / 10 ^ z) z 9

-- the number with the other sign; zero stays zero
abbrev pub negate : Exact → Exact
negate d = record d { is_negative = not d.is_negative && not (d.digits == 0) }

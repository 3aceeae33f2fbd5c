-- The digits of a number from the first one on, as far as they were read
-- (private: nothing rests on believing it).
use Rattle.std.specs.Prelude.{◌≡◌, ◌≢◌, ℕ, ◌*◌, ◌^◌, ◌%◌, ◌≤◌, ◌<◌, true, false, Option, MatchOption}
use Rattle.std.specs.Char.{digit_value, is_ascii_digit}

-- n has more than 38 digits without zeros at its end
pub record IsLong (n : ℕ) : Type 0 where
  pub front : ℕ
  pub zeros : ℕ
  pub splits : n ≡ front * 10 ^ zeros
  pub long : 10 ^ 38 ≤ front
  pub ends : front % 10 ≢ 0

-- a character as a decimal digit
abbrev pub ReadsDigit : ℕ → Option ℕ → Type 0
ReadsDigit c r = MatchOption r (is_ascii_digit c ≡ false) (λ d. (is_ascii_digit c ≡ true) × (d ≡ digit_value c) × (d < 10))

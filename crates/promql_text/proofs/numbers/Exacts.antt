-- Exact decimal numbers.
use Rattle.std.proofs.Common.{◌≡◌, ◌≢◌, ◌==◌, ℕ, ◌-◌, ◌*◌, ◌/◌, ◌%◌, ◌^◌, ◌+◌, ◌<◌, ◌≤◌, Bool, true, false, cond, Some, None, refl, ap, ◌∙◌, sym, arith, lit<, lit≤}
use Rattle.std.specs.Fmt.{digits}
use Rattle.promql_text.specs.Numbers.{IsExact, exact_zero, digit_count, exact_quotient, from_digits, is_in_range, seconds_of, whole, tens}
use Rattle.std.proofs.lemmas.Bool.{ne_eqb}
use Rattle.std.proofs.lemmas.Bool.Decides.{nat_tests}
use Rattle.promql_text.proofs.numerals.DigitCounts.{count_within}
use Rattle.promql_text.proofs.numbers.Tens.{below_product, zeros_below, Splits, splits}

pub exact_zero_is : IsExact exact_zero
unfolding digits
exact_zero_is = record {
  short = lit< tt;
  ends = λ _. refl;
  one_zero = λ _. (refl, refl, refl);
  one_side = λ _. refl;
  below = lit≤ tt;
  above = lit≤ tt;
}

-- ---- whole numbers

pub whole_is : (neg : Bool) (a z n : ℕ) → a * 10 ^ z ≡ n → 0 < a → a % 10 ≢ 0 → n < 2 ^ 64 → IsExact (record { is_negative = neg; digits = a; zeros = z; places = 0 })
whole_is neg a z n is some ends less =
    let small : n < 10 ^ 20 = omega arith in
    let few : z < 20 = zeros_below a z n 20 is some small in
    let low : a < 10 ^ 20 = (let h = below_product a z in omega (arith, h, is)) in
    let count : digit_count a ≤ 20 = count_within 20 a (omega arith) low (omega arith) in
    record {
      short = omega arith;
      ends = λ e. absurd (ends e);
      one_zero = λ e. absurd (omega arith);
      one_side = λ e. absurd (omega arith);
      below = omega arith;
      above = omega arith;
    }

scaled_whole : (neg : Bool) (a z : ℕ) → exact_quotient neg a z 0 ≡ record { is_negative = neg; digits = a; zeros = z; places = 0 }
scaled_whole neg a z = let e : z - 0 ≡ z = omega arith in let f : 0 - z ≡ 0 = omega arith in rw (e, f)

pub whole_value : (neg : Bool) (a z n : ℕ) → a * 10 ^ z ≡ n → 0 < a → a % 10 ≢ 0 → n < 2 ^ 64 → record { is_negative = neg; digits = a; zeros = z; places = 0 } ≡ whole neg n
whole_value neg a z n is some ends less =
    let s : Splits 20 n a z = splits 20 n a z is ends (omega arith) in
    let low : a ≤ n = (let h = below_product a z in omega (arith, h, is)) in
    let test : (n == 0) ≡ false = ne_eqb n 0 (omega arith) in
    let e : exact_quotient neg (n / 10 ^ tens 20 n) (tens 20 n) 0 ≡ exact_quotient neg a z 0 = ap (λ d. exact_quotient neg d (tens 20 n) 0) s.digits ∙ ap (λ k. exact_quotient neg a k 0) s.zeros in
    sym (ap (λ b. cond b exact_zero (exact_quotient neg (n / 10 ^ tens 20 n) (tens 20 n) 0)) test ∙ e ∙ scaled_whole neg a z)

-- ---- a whole number divided by a power of ten

pub in_range : (c up down : ℕ) → digit_count c + up ≤ 309 + down → down ≤ digit_count c + up + 323 → is_in_range c up down ≡ true
in_range c up down below above = grind (arith, nat_tests)

pub with_places_is : (a z n p : ℕ) → a * 10 ^ z ≡ n → 0 < a → a % 10 ≢ 0 → n < 2 ^ 64 * 1_000_000_000 → p < 324
    → IsExact (record { is_negative = false; digits = a; zeros = z - p; places = p - z })
with_places_is a z n p is some ends less near =
    let few : z < 29 = zeros_below a z n 29 is some (omega arith) in
    let low : a < 10 ^ 29 = (let h = below_product a z in omega (arith, h, is)) in
    let count : digit_count a ≤ 29 = count_within 29 a (omega arith) low (omega arith) in
    record {
      short = omega arith;
      ends = λ e. absurd (ends e);
      one_zero = λ e. absurd (omega arith);
      one_side = λ e. omega arith;
      below = omega arith;
      above = omega arith;
    }

-- ---- seconds of nanoseconds

pub seconds_value : (a z n : ℕ) → a * 10 ^ z ≡ n → 0 < a → a % 10 ≢ 0 → n < 2 ^ 64 * 1_000_000_000
    → record { is_negative = false; digits = a; zeros = z - 9; places = 9 - z } ≡ seconds_of n
seconds_value a z n is some ends less =
    let s : Splits 29 n a z = splits 29 n a z is ends (omega arith) in
    let low : a ≤ n = (let h = below_product a z in omega (arith, h, is)) in
    let test : (n == 0) ≡ false = ne_eqb n 0 (omega arith) in
    let e : exact_quotient false (n / 10 ^ tens 29 n) (tens 29 n) 9 ≡ exact_quotient false a z 9
    = ap (λ d. exact_quotient false d (tens 29 n) 9) s.digits ∙ ap (λ k. exact_quotient false a k 9) s.zeros in
    sym (ap (λ b. cond b exact_zero (exact_quotient false (n / 10 ^ tens 29 n) (tens 29 n) 9)) test ∙ e)

-- ---- a number of 64 bits divided by a power of ten

pub with_places_value : (a z n p : ℕ) → a * 10 ^ z ≡ n → 0 < a → a % 10 ≢ 0 → n < 2 ^ 64 → p < 324
    → Some (record { is_negative = false; digits = a; zeros = z - p; places = p - z }) ≡ from_digits false (n / 10 ^ tens 20 n) (tens 20 n) p
with_places_value a z n p is some ends less near =
    let s : Splits 20 n a z = splits 20 n a z is ends (omega arith) in
    let few : z < 20 = zeros_below a z n 20 is some (omega arith) in
    let low : a < 10 ^ 20 = (let h = below_product a z in omega (arith, h, is)) in
    let count : digit_count a ≤ 20 = count_within 20 a (omega arith) low (omega arith) in
    let range : is_in_range a z p ≡ true = in_range a z p (omega arith) (omega arith) in
    sym (ap (λ d. from_digits false d (tens 20 n) p) s.digits ∙ ap (λ k. from_digits false a k p) s.zeros
    ∙ ap (λ b. cond b (Some exact_zero) (cond (is_in_range a z p) (Some (exact_quotient false a z p)) None)) (ne_eqb a 0 (omega arith))
    ∙ ap (λ b. cond b (Some (exact_quotient false a z p)) None) range)

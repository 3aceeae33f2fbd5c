-- Digits before the point, and after it.
use Rattle.std.proofs.Common.{◌≡◌, ℕ, ◌/◌, ◌%◌, ◌^◌, ◌<◌, ◌≤◌, arith, sym}
use Rattle.std.proofs.Math.Nat.{div-eq_of_lt, mod-eq_of_lt, mod-lt, mod-le, pow-le-pow_right}
use Rattle.promql_text.specs.Numbers.{digit_count}
use Rattle.promql_text.proofs.numerals.DigitCounts.{count_within}
use Rattle.promql_text.proofs.numbers.Tens.{ten_pos}

power_le : (j k : ℕ) → j ≤ k → 10 ^ j ≤ 10 ^ k
power_le j k le = pow-le-pow_right {n = 10} (omega arith) le

pub power_within : (k : ℕ) → k ≤ 38 → 10 ^ k < 2 ^ 128
power_within k less = let h = power_le k 38 less in omega (arith, h)

pub power_fits : (k : ℕ) → k < 38 → 10 ^ k < 2 ^ 128
power_fits k less = power_within k (omega arith)

-- all digits come after the point
pub all_after_point : (n k : ℕ) → n < 10 ^ 38 → 38 ≤ k → (0 ≡ n / 10 ^ k) × (n ≡ n % 10 ^ k)
all_after_point n k short le =
    let h = power_le 38 k le in
    let less : n < 10 ^ k = omega (arith, h) in
    (sym (div-eq_of_lt less), sym (mod-eq_of_lt less))

-- the digits after the point have room there
pub part_count : (n k : ℕ) → 0 < k → n < 10 ^ 38 → digit_count (n % 10 ^ k) ≤ k
part_count n k some short =
    let low = mod-le n (10 ^ k) in
    count_within k (n % 10 ^ k) some (mod-lt n (ten_pos k)) (omega (arith, low))

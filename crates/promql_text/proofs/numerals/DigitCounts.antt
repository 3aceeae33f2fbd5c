-- How many digits a number has.
use Rattle.std.proofs.Common.{◌≡◌, ℕ, ◌+◌, ◌/◌, ◌%◌, ◌^◌, ◌<◌, ◌≤◌, length, ap, ◌∙◌, arith, [], ◌∷◌, length-append}
use Rattle.std.specs.Fmt.{decimal}
use Rattle.std.proofs.lemmas.Fmt.{decimal_step_wide, decimal_digit, length-decimal-le_wide}
use Rattle.promql_text.specs.Numbers.{digit_count}

wide : (n : ℕ) → n < 10 ^ 38 → n < 10 ^ 64
wide n short = omega arith

pub count_step : (n : ℕ) → 10 ≤ n → n < 10 ^ 38 → digit_count n ≡ digit_count (n / 10) + 1
count_step n low short = ap length (decimal_step_wide n low (wide n short)) ∙ length-append (decimal (n / 10)) ((48 + n % 10) ∷ [])

pub count_small : (n : ℕ) → n < 10 → digit_count n ≡ 1
count_small n small = ap length (decimal_digit n small)

pub count_short : (n : ℕ) → n < 10 ^ 38 → digit_count n ≤ 38
count_short n short = length-decimal-le_wide 38 n (omega arith) short (wide n short)

pub count_within : (k n : ℕ) → 0 < k → n < 10 ^ k → n < 10 ^ 38 → digit_count n ≤ k
count_within k n some less short = length-decimal-le_wide k n some less (wide n short)

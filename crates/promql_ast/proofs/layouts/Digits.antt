-- How many digits a number has.
use Rattle.std.proofs.Common.{◌≡◌, ℕ, ◌+◌, ◌/◌, ◌%◌, ◌^◌, ◌<◌, ◌≤◌, ℤ, [], ◌∷◌, ◌++◌, length, sym, ap, arith, length-append}
use Rattle.std.specs.Prelude.{unsigned_abs}
use Rattle.std.specs.Fmt.{decimal}
use Rattle.std.proofs.lemmas.Fmt.{decimal_step, decimal_digit, length-decimal-le}
use Rattle.promql_ast.specs.Shifts.{sign_text, time_text}

pub digits_next : (n : ℕ) → 10 ≤ n → n < 2 ^ 64 → length (decimal (n / 10)) + 1 ≡ length (decimal n)
digits_next n some small = omega (arith, ap length (decimal_step n some small), length-append (decimal (n / 10)) ((48 + n % 10) ∷ []))

pub digits_one : (n : ℕ) → n < 10 → 1 ≡ length (decimal n)
digits_one n small = sym (ap length (decimal_digit n small))

pub digits_few : (n : ℕ) → n < 2 ^ 64 → length (decimal n) ≤ 20
digits_few n small = length-decimal-le 20 n (omega arith) (omega arith) small

last_digit : (n : ℕ) → length (decimal (n % 10)) ≡ 1
last_digit n = ap length (decimal_digit (n % 10) (omega arith))

-- the sign, the whole seconds, the point and three digits
pub time_length : (t : ℤ) → length (time_text t) ≡ length (sign_text t) + (length (decimal (unsigned_abs t / 1000)) + 4)
unfolding time_text
time_length t =
    let size : ℕ = unsigned_abs t in
    let tenths = decimal (size / 100 % 10) in
    let hundredths = decimal (size / 10 % 10) in
    let thousandths = decimal (size % 10) in
    omega (arith, length-append (sign_text t) (decimal (size / 1000) ++ (46 ∷ (tenths ++ (hundredths ++ thousandths)))), length-append (decimal (size / 1000)) (46 ∷ (tenths ++ (hundredths ++ thousandths))), length-append tenths (hundredths ++ thousandths), length-append hundredths thousandths, last_digit (size / 100), last_digit (size / 10), last_digit size)

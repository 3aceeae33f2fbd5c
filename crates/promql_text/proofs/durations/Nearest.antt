-- Rounding is to the nearest whole number, and there is one.
use Rattle.std.proofs.Common.{◌≡◌, inl, inr, ⊎_elim, ℕ, ◌+◌, ◌*◌, ◌/◌, ◌%◌, ◌^◌, ◌<◌, ◌≤◌, Bool, true, false, cond, refl, sym, ap, ◌∙◌, subst, arith}
use Rattle.std.proofs.lemmas.Bool.{cases_lt, cases_order}
use Rattle.std.proofs.lemmas.Nat.{mul-le}
use Rattle.std.proofs.Math.Nat.{div-add-mod}
use Rattle.promql_text.specs.DecimalForm.{Numeral, digits_number, places, exponent_size}
use Rattle.promql_text.specs.Durations.{nearest, round_half_even, second_nanos}
use Rattle.promql_text.specs.DurationForms.{IsNearest, up, down}
use Rattle.promql_text.proofs.durations.RoundedQuotients.{rounded_down, rounded_even, rounded_up, nearest_parts, ten_positive}

stays : (a b w r : ℕ) → 0 < b → a ≡ w * b + r → r * 2 ≤ b → (r * 2 ≡ b → w % 2 ≡ 0) → IsNearest a b w
stays a b w r some parts low even = record {
  below = omega arith;
  above = omega arith;
  even = λ tie. ⊎_elim (λ e. absurd (omega arith)) (λ e. even (omega arith)) tie;
}

goes_up : (a b w r : ℕ) → a ≡ w * b + r → r < b → b ≤ r * 2 → (r * 2 ≡ b → (w + 1) % 2 ≡ 0) → IsNearest a b (w + 1)
goes_up a b w r parts less high even =
    let more : (w + 1) * b ≡ w * b + b = omega arith in
    record {
      below = omega (arith, more);
      above = omega (arith, more);
      even = λ tie. ⊎_elim (λ e. even (omega (arith, more))) (λ e. absurd (omega (arith, more))) tie;
    }

tie_even : (a b w r : ℕ) → 0 < b → a ≡ w * b + r → r * 2 ≡ b → IsNearest a b (w + w % 2)
tie_even a b w r some parts same =
    let P : ℕ → Type 0 = λ q. IsNearest a b q in
    ⊎_elim
    (λ (even : w % 2 < 1). let e : w ≡ w + w % 2 = omega arith in subst P e (stays a b w r some parts (omega arith) (λ _. omega arith)))
    (λ (odd : 1 ≤ w % 2). let e : w + 1 ≡ w + w % 2 = omega arith in subst P e (goes_up a b w r parts (omega arith) (omega arith) (λ _. omega arith)))
    (cases_lt (w % 2) 1)

rounded_nearest : (a b w r : ℕ) → a ≡ w * b + r → r < b → IsNearest a b (round_half_even w r b)
rounded_nearest a b w r parts less =
    let P : ℕ → Type 0 = λ q. IsNearest a b q in
    ⊎_elim
    (λ (same : r * 2 ≡ b). subst P (sym (rounded_even w r b same)) (tie_even a b w r (omega arith) parts same))
    (λ apart. ⊎_elim
    (λ (low : r * 2 < b). subst P (sym (rounded_down w r b low)) (stays a b w r (omega arith) parts (omega arith) (λ e. absurd (omega arith))))
    (λ (high : b < r * 2). subst P (sym (rounded_up w r b high)) (goes_up a b w r parts less (omega arith) (λ e. absurd (omega arith))))
    apart)
    (cases_order (r * 2) b)

pub nearest_is : (a b : ℕ) → 0 < b → IsNearest a b (nearest a b)
nearest_is a b some =
    let w : ℕ = a / b in
    let r : ℕ = a % b in
    let parts : a ≡ w * b + r = omega (arith, div-add-mod a b) in
    let less : r < b = omega arith in
    let P : ℕ → Type 0 = λ q. IsNearest a b q in
    subst P (sym (ap (λ x. nearest x b) parts ∙ nearest_parts w b r less)) (rounded_nearest a b w r parts less)

-- two whole numbers can't both be nearest
not_less : (a b p q : ℕ) → 0 < b → IsNearest a b p → IsNearest a b q → p < q → ⊥
not_less a b p q some g h less =
    let step : (p + 1) * b ≤ q * b = mul-le (p + 1) b q b (omega arith) (omega arith) in
    let more : (p + 1) * b ≡ p * b + b = omega arith in
    let low = g.above in
    let high = h.below in
    let p_even : p % 2 ≡ 0 = g.even (inr (omega (arith, step, more, low, high))) in
    let q_even : q % 2 ≡ 0 = h.even (inl (omega (arith, step, more, low, high))) in
    let far : (p + 2) * b ≤ q * b = mul-le (p + 2) b q b (omega (arith, p_even, q_even, less)) (omega arith) in
    let most : (p + 2) * b ≡ p * b + b + b = omega arith in
    omega (arith, far, most, low, high, some)

pub nearest_one : (a b p q : ℕ) → 0 < b → IsNearest a b p → IsNearest a b q → p ≡ q
nearest_one a b p q some g h =
    ⊎_elim (λ same. same) (λ apart. ⊎_elim (λ less. absurd (not_less a b p q some g h less)) (λ more. absurd (not_less a b q p some h g more)) apart) (cases_order p q)

-- ---- nanoseconds of a numeral

pub seconds_nearest : (n : Numeral) → second_nanos n ≡ nearest (digits_number n * 10 ^ (9 + up n)) (10 ^ down n)
unfolding second_nanos
seconds_nearest n = at n.is_down
  where
    at : (b : Bool)
        → cond b (nearest (digits_number n * 10 ^ 9) (10 ^ (places n + exponent_size n))) (nearest (digits_number n * 10 ^ (9 + exponent_size n)) (10 ^ places n))
        ≡ nearest (digits_number n * 10 ^ (9 + cond b 0 (exponent_size n))) (10 ^ cond b (places n + exponent_size n) (places n))
    at true = refl
    at false = refl

abbrev pub IsNanos : Numeral → ℕ → Type 0
IsNanos n q = IsNearest (digits_number n * 10 ^ (9 + up n)) (10 ^ down n) q

pub seconds_are : (n : Numeral) → IsNanos n (second_nanos n)
seconds_are n = let P : ℕ → Type 0 = λ q. IsNanos n q in subst P (sym (seconds_nearest n)) (nearest_is (digits_number n * 10 ^ (9 + up n)) (10 ^ down n) (ten_positive (down n)))

pub seconds_one : (n : Numeral) (q : ℕ) → IsNanos n q → second_nanos n ≡ q
seconds_one n q is = nearest_one (digits_number n * 10 ^ (9 + up n)) (10 ^ down n) (second_nanos n) q (ten_positive (down n)) (seconds_are n) is

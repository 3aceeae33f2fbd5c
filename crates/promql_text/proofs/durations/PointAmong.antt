-- The nanoseconds of a numeral of seconds, by the point among its digits.
use Rattle.std.proofs.Common.{◌≡◌, ℕ, ◌+◌, ◌-◌, ◌*◌, ◌^◌, ◌<◌, ◌≤◌, min, true, false, [], ◌∷◌, ◌++◌, length, Some, None, sym, ap, ◌∙◌, subst, ⊎_elim, length-append, arith}
use Rattle.std.specs.Prelude.{nat_le}
use Rattle.std.specs.Str.Parse.{digits_value, AllDigits}
use Rattle.std.proofs.lemmas.Bool.{cond-true, cond-false, cases_lt, cases_Bool, le-leb}
use Rattle.std.proofs.lemmas.Int.Digits.{digits_value-lt}
use Rattle.std.proofs.lemmas.Nat.{mul-le, pow-add}
use Rattle.promql_text.specs.Texts.{Text}
use Rattle.promql_text.specs.DecimalForm.{Numeral, digits_number, places, exponent_size}
use Rattle.promql_text.specs.Durations.{second_nanos}
use Rattle.promql_text.specs.DurationReaders.{cap_u128}
use Rattle.promql_text.specs.Rounding.{at_point, PlacesPoint}
use Rattle.promql_text.proofs.durations.RoundedQuotients.{nearest_none, nearest-at_point, ten_positive, ten_split, capped_zeros}

pub digits_append : (xs ys : Text) → AllDigits 10 xs → AllDigits 10 ys → AllDigits 10 (xs ++ ys)
digits_append [] ys x y = y
digits_append (c ∷ xs) ys x y = (x.0, digits_append xs ys x.1 y)

-- ---- a point before the digits, with a zero between

too_small : (d w p e : ℕ) → d < 10 ^ (w + p) → w + 9 < e → d * 10 ^ 9 * 2 < 10 ^ (p + e)
too_small d w p e below far =
    let k : ℕ = w + p + 10 in
    let wide = ten_split (p + e) k (omega arith) in
    let ten : 10 ^ k ≡ 10 ^ (w + p) * 10 ^ 10 = pow-add 10 (w + p) 10 in
    let some = mul-le 1 (10 ^ k) (10 ^ (p + e - k)) (10 ^ k) (ten_positive (p + e - k)) (omega arith) in
    omega (arith, wide, ten, some)

pub second_none : (n : Numeral) → AllDigits 10 (n.whole ++ n.fraction) → PlacesPoint n None → 0 ≡ cap_u128 (second_nanos n)
unfolding second_nanos
second_none n digits point =
    let d : ℕ = digits_number n in
    let w : ℕ = length n.whole in
    let below : d < 10 ^ (w + places n) = subst (λ k. d < 10 ^ k) (length-append n.whole n.fraction) (digits_value-lt 10 (n.whole ++ n.fraction) digits) in
    let e = exponent_size n in
    ap cap_u128 (sym (nearest_none (d * 10 ^ 9) (10 ^ (places n + e)) (too_small d w (places n) e below point.1)) ∙ sym (cond-true n.is_down _ _ point.0))

-- ---- a point among the digits or after them

-- far after the digits, how far makes no difference
far_zeros : (d z : ℕ) → 39 ≤ z → cap_u128 (d * 10 ^ z) ≡ cap_u128 (d * cap_u128 (10 ^ 39))
far_zeros d z far = sym (capped_zeros d z) ∙ ap (λ k. cap_u128 (d * cap_u128 (10 ^ k))) (let e : min z 39 ≡ 39 = omega arith in e)

short_digits : (ds : Text) (n : ℕ) → length ds ≤ n → at_point n ds ≡ digits_value 10 ds * 10 ^ (n - length ds)
unfolding at_point
short_digits ds n within = cond-true (nat_le (length ds) n) _ _ (le-leb (length ds) n within)

pub far_points : (ds : Text) (m n : ℕ) → length ds + 39 ≤ m → length ds + 39 ≤ n → cap_u128 (at_point m ds) ≡ cap_u128 (at_point n ds)
far_points ds m n far farther =
    let d : ℕ = digits_value 10 ds in
    ap cap_u128 (short_digits ds m (omega arith)) ∙ far_zeros d (m - length ds) (omega arith)
    ∙ sym (ap cap_u128 (short_digits ds n (omega arith)) ∙ far_zeros d (n - length ds) (omega arith))

pub capped_point : (ds : Text) (n : ℕ) → length ds < 2 ^ 100 → cap_u128 (at_point (cap_u128 n) ds) ≡ cap_u128 (at_point n ds)
capped_point ds n short =
    ⊎_elim
    (λ (small : n < 2 ^ 128). ap (λ k. cap_u128 (at_point k ds)) (let e : cap_u128 n ≡ n = omega arith in e))
    (λ (big : 2 ^ 128 ≤ n). far_points ds (cap_u128 n) n (omega arith) (omega arith))
    (cases_lt n (2 ^ 128))

second_down : (n : Numeral) (p : ℕ) → n.is_down ≡ true → p + exponent_size n ≡ length n.whole + 9 → at_point p (n.whole ++ n.fraction) ≡ second_nanos n
unfolding second_nanos
second_down n p down point =
    sym (nearest-at_point (n.whole ++ n.fraction) p 9 (places n + exponent_size n) (omega (arith, length-append n.whole n.fraction)))
    ∙ sym (cond-true n.is_down _ _ down)

second_up : (n : Numeral) → n.is_down ≡ false → at_point (length n.whole + 9 + exponent_size n) (n.whole ++ n.fraction) ≡ second_nanos n
unfolding second_nanos
second_up n up =
    sym (nearest-at_point (n.whole ++ n.fraction) (length n.whole + 9 + exponent_size n) (9 + exponent_size n) (places n) (omega (arith, length-append n.whole n.fraction)))
    ∙ sym (cond-false n.is_down _ _ up)

pub second_some : (n : Numeral) (p : ℕ) → length (n.whole ++ n.fraction) < 2 ^ 100 → PlacesPoint n (Some p) → cap_u128 (at_point p (n.whole ++ n.fraction)) ≡ cap_u128 (second_nanos n)
second_some n p short point =
    ⊎_elim
    (λ (down : n.is_down ≡ true). ap cap_u128 (second_down n p down (point.0 down)))
    (λ (up : n.is_down ≡ false).
    ap (λ k. cap_u128 (at_point k (n.whole ++ n.fraction))) (point.1 up)
    ∙ capped_point (n.whole ++ n.fraction) (length n.whole + 9 + exponent_size n) short
    ∙ ap cap_u128 (second_up n up))
    (cases_Bool n.is_down)

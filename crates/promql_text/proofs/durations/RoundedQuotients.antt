-- Rounding of quotients, and of digits at a point.
use Rattle.std.proofs.Common.{◌≡◌, ℕ, ◌+◌, ◌-◌, ◌*◌, ◌/◌, ◌%◌, ◌^◌, ◌<◌, ◌≤◌, min, [], ◌∷◌, ◌++◌, length, refl, sym, ap, ◌∙◌, ⊎_elim, lit<, arith}
use Rattle.std.specs.Prelude.{◌==◌, nat_lt, nat_le}
use Rattle.std.specs.Char.{digit_value}
use Rattle.std.specs.Str.Parse.{digits_value, digits_value_after}
use Rattle.std.proofs.lemmas.Bool.{cond-true, cond-false, cases_lt, cases_order, lt-ltb, le-ltb, eq-eqb, ne_eqb, le-leb, lt-leb}
use Rattle.std.proofs.lemmas.Nat.{mul-le, div-mul-add, mod-mul-add, pow-add}
use Rattle.std.proofs.Math.Nat.{pow-suc, one-le-pow, div-add-mod}
use Rattle.promql_text.specs.Texts.{Text}
use Rattle.promql_text.specs.Durations.{round_half_even, nearest}
use Rattle.promql_text.specs.DurationReaders.{cap_u128}
use Rattle.promql_text.specs.Rounding.{at_point}

-- ---- three ways to round

pub rounded_down : (w r b : ℕ) → r * 2 < b → round_half_even w r b ≡ w
rounded_down w r b h = cond-true (nat_lt (r * 2) b) _ _ (lt-ltb (r * 2) b h)

pub rounded_even : (w r b : ℕ) → r * 2 ≡ b → round_half_even w r b ≡ w + w % 2
rounded_even w r b h = cond-false (nat_lt (r * 2) b) _ _ (le-ltb (r * 2) b (omega arith)) ∙ cond-true (r * 2 == b) _ _ (eq-eqb (r * 2) b h)

pub rounded_up : (w r b : ℕ) → b < r * 2 → round_half_even w r b ≡ w + 1
rounded_up w r b h = cond-false (nat_lt (r * 2) b) _ _ (le-ltb (r * 2) b (omega arith)) ∙ cond-false (r * 2 == b) _ _ (ne_eqb (r * 2) b (λ e. absurd (omega arith)))

scaled_lt : (a b c : ℕ) → 0 < c → a < b → a * c < b * c
scaled_lt a b c some h = omega (arith, mul-le (a + 1) c b c (omega arith) (omega arith))

rounded_scaled : (w r b c : ℕ) → 0 < c → round_half_even w (r * c) (b * c) ≡ round_half_even w r b
rounded_scaled w r b c some =
    ⊎_elim
    (λ (same : r * 2 ≡ b). rounded_even w (r * c) (b * c) (let e : r * c * 2 ≡ r * 2 * c = omega arith in e ∙ ap (λ x. x * c) same) ∙ sym (rounded_even w r b same))
    (λ apart. ⊎_elim
    (λ (low : r * 2 < b). rounded_down w (r * c) (b * c) (omega (arith, scaled_lt (r * 2) b c some low)) ∙ sym (rounded_down w r b low))
    (λ (high : b < r * 2). rounded_up w (r * c) (b * c) (omega (arith, scaled_lt b (r * 2) c some high)) ∙ sym (rounded_up w r b high))
    apart)
    (cases_order (r * 2) b)

-- ---- quotients

pub nearest_parts : (w b r : ℕ) → r < b → nearest (w * b + r) b ≡ round_half_even w r b
unfolding nearest
nearest_parts w b r h = ap (λ q. round_half_even q ((w * b + r) % b) b) (div-mul-add w b r h) ∙ ap (λ m. round_half_even w m b) (mod-mul-add w b r h)

pub nearest_whole : (w b : ℕ) → 0 < b → nearest (w * b) b ≡ w
nearest_whole w b some =
    ap (λ a. nearest a b) (let e : w * b ≡ w * b + 0 = omega arith in e) ∙ nearest_parts w b 0 some ∙ rounded_down w 0 b (omega arith)

pub nearest_none : (a b : ℕ) → a * 2 < b → nearest a b ≡ 0
nearest_none a b h =
    ap (λ x. nearest x b) (let e : a ≡ 0 * b + a = omega arith in e) ∙ nearest_parts 0 b a (omega arith) ∙ rounded_down 0 a b h

pub nearest_scaled : (a b c : ℕ) → 0 < b → 0 < c → nearest (a * c) (b * c) ≡ nearest a b
unfolding nearest
nearest_scaled a b c some more =
    let w : ℕ = a / b in
    let r : ℕ = a % b in
    let parts : a ≡ w * b + r = omega (arith, div-add-mod a b) in
    let below : r < b = omega arith in
    ap (λ x. nearest (x * c) (b * c)) parts
    ∙ ap (λ x. nearest x (b * c)) (let e : (w * b + r) * c ≡ w * (b * c) + r * c = omega arith in e)
    ∙ nearest_parts w (b * c) (r * c) (scaled_lt r b c more below)
    ∙ rounded_scaled w r b c more

pub ten_positive : (k : ℕ) → 0 < 10 ^ k
ten_positive k = one-le-pow k 10 (lit< tt)

pub ten_split : (j k : ℕ) → k ≤ j → 10 ^ j ≡ 10 ^ (j - k) * 10 ^ k
ten_split j k h = ap (λ n. 10 ^ n) (let e : j ≡ (j - k) + k = omega arith in e) ∙ pow-add 10 (j - k) k

-- a number with its point moved to the right, and to the left
pub nearest_right : (a j k : ℕ) → k ≤ j → nearest (a * 10 ^ j) (10 ^ k) ≡ a * 10 ^ (j - k)
nearest_right a j k h =
    ap (λ x. nearest (a * x) (10 ^ k)) (ten_split j k h)
    ∙ ap (λ x. nearest x (10 ^ k)) (let e : a * (10 ^ (j - k) * 10 ^ k) ≡ a * 10 ^ (j - k) * 10 ^ k = omega arith in e)
    ∙ nearest_whole (a * 10 ^ (j - k)) (10 ^ k) (ten_positive k)

pub nearest_left : (a j k : ℕ) → j ≤ k → nearest (a * 10 ^ j) (10 ^ k) ≡ nearest a (10 ^ (k - j))
nearest_left a j k h =
    ap (λ x. nearest (a * 10 ^ j) x) (ten_split k j h) ∙ nearest_scaled a (10 ^ (k - j)) (10 ^ j) (ten_positive (k - j)) (ten_positive j)

-- the digits' number, ten times and more or divided, is their number at a point
pub nearest-at_point : (ds : Text) (n j k : ℕ) → n + k ≡ length ds + j → nearest (digits_value 10 ds * 10 ^ j) (10 ^ k) ≡ at_point n ds
unfolding at_point
nearest-at_point ds n j k e =
    let d : ℕ = digits_value 10 ds in
    ⊎_elim
    (λ (past : n < length ds).
    nearest_left d j k (omega arith)
    ∙ ap (λ m. nearest d (10 ^ m)) (let same : k - j ≡ length ds - n = omega arith in same)
    ∙ sym (cond-false (nat_le (length ds) n) _ _ (lt-leb (length ds) n past)))
    (λ (within : length ds ≤ n).
    nearest_right d j k (omega arith)
    ∙ ap (λ m. d * 10 ^ m) (let same : j - k ≡ n - length ds = omega arith in same)
    ∙ sym (cond-true (nat_le (length ds) n) _ _ (le-leb (length ds) n within)))
    (cases_lt n (length ds))

-- ---- digits in two parts

pub digits_after : (x : ℕ) (ds : Text) → digits_value_after 10 x ds ≡ x * 10 ^ length ds + digits_value 10 ds
digits_after x [] = omega arith
digits_after x (c ∷ cs) =
    let d : ℕ = digit_value c in
    let p : ℕ = 10 ^ length cs in
    digits_after (x * 10 + d) cs
    ∙ (let e : (x * 10 + d) * p + digits_value 10 cs ≡ x * (p * 10) + ((0 * 10 + d) * p + digits_value 10 cs) = omega arith in e)
    ∙ ap (λ y. x * (p * 10) + y) (sym (digits_after (0 * 10 + d) cs))
    ∙ ap (λ q. x * q + digits_value 10 (c ∷ cs)) (sym (pow-suc 10 (length cs)))

after-append : (x : ℕ) (xs ys : Text) → digits_value_after 10 x (xs ++ ys) ≡ digits_value_after 10 (digits_value_after 10 x xs) ys
after-append x [] ys = refl
after-append x (c ∷ xs) ys = after-append (x * 10 + digit_value c) xs ys

pub digits_value-append : (xs ys : Text) → digits_value 10 (xs ++ ys) ≡ digits_value 10 xs * 10 ^ length ys + digits_value 10 ys
digits_value-append xs ys = after-append 0 xs ys ∙ digits_after (digits_value 10 xs) ys

-- ---- zeros after a number

pub tens_huge : (z : ℕ) → 39 ≤ z → 2 ^ 128 ≤ 10 ^ z
tens_huge z h = omega (arith, ten_split z 39 h, mul-le 1 (10 ^ 39) (10 ^ (z - 39)) (10 ^ 39) (ten_positive (z - 39)) (omega arith))

pub capped_full : (n m : ℕ) → 0 < n → 2 ^ 128 - 1 ≤ m → cap_u128 (n * m) ≡ 2 ^ 128 - 1
capped_full n m some full = omega (arith, mul-le 1 (2 ^ 128 - 1) n m some full)

pub capped_times : (n m : ℕ) → cap_u128 (n * cap_u128 m) ≡ cap_u128 (n * m)
capped_times n m =
    ⊎_elim
    (λ (small : m < 2 ^ 128). ap (λ x. cap_u128 (n * x)) (let e : cap_u128 m ≡ m = omega arith in e))
    (λ (big : 2 ^ 128 ≤ m). ⊎_elim
    (λ (some : 0 < n). capped_full n (cap_u128 m) some (omega arith) ∙ sym (capped_full n m some (omega arith)))
    (λ (none : n ≤ 0). let zero_is : n ≡ 0 = omega arith in rw zero_is (omega arith))
    (cases_lt 0 n))
    (cases_lt m (2 ^ 128))

pub capped_zeros : (n z : ℕ) → cap_u128 (n * cap_u128 (10 ^ (min z 39))) ≡ cap_u128 (n * 10 ^ z)
capped_zeros n z =
    capped_times n (10 ^ (min z 39))
    ∙ ⊎_elim
    (λ (few : z < 39). ap (λ k. cap_u128 (n * 10 ^ k)) (let e : min z 39 ≡ z = omega arith in e))
    (λ (many : 39 ≤ z). ⊎_elim
    (λ (some : 0 < n).
    let huge : 2 ^ 128 ≤ 10 ^ (min z 39) = tens_huge (min z 39) (omega arith) in
    let huger : 2 ^ 128 ≤ 10 ^ z = tens_huge z many in
    capped_full n (10 ^ (min z 39)) some (omega arith) ∙ sym (capped_full n (10 ^ z) some (omega arith)))
    (λ (none : n ≤ 0). let zero_is : n ≡ 0 = omega arith in rw zero_is (omega arith))
    (cases_lt 0 n))
    (cases_lt z 39)

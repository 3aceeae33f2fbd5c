-- The multiples of a step in a window lie in the window that has all of them.
use Rattle.std.proofs.Common.{◌≡◌, refl, sym, ◌∙◌, ap, subst, ℕ, zero, suc, arith, ◌+◌, ◌-◌, ◌*◌, ◌/◌, ◌%◌, ◌<◌, ◌≤◌}
use Rattle.std.proofs.Math.Nat.{mul-le-mul_right, div-mul-le_self, le_trans as up_to, mod-lt}
use Rattle.std.proofs.lemmas.Nat.{div-add-mod', div-mul-add, le-div}
use Rattle.std.specs.Prelude.{ℤ}
use Rattle.std.specs.Int.{int_div_euclid, int_gap}
use Rattle.std.specs.Int.Signed.{◌≤ℤ◌}
use Rattle.std.proofs.Math.IntN.{pos, negsuc, neg_ℤ, ◌+ℤ◌, ◌*ℤ◌}
use Rattle.promql_when.specs.Windows.{ceil_to, floor_to}

-- ---- as many as fit

product_fits : (gap step k : ℕ) → k < suc (gap / suc step) → k * suc step ≤ gap
product_fits gap step k fits =
    let few : k ≤ gap / suc step = omega arith in
    up_to (mul-le-mul_right (suc step) few) (div-mul-le_self gap (suc step))

within_gap : (c last : ℤ) (n : ℕ) → c ≤ℤ last → n ≤ int_gap c last → (c +ℤ pos n) ≤ℤ last
within_gap c last n is fits = grind arith

pub below_last : (c last : ℤ) (step k : ℕ) → c ≤ℤ last → k < suc (int_gap c last / suc step) → (c +ℤ pos (k * suc step)) ≤ℤ last
below_last c last step k is fits = within_gap c last (k * suc step) is (product_fits (int_gap c last) step k fits)

-- ---- floors and ceilings

pub ceil_above : (step : ℕ) (x : ℤ) → x ≤ℤ ceil_to (suc step) x
ceil_above step x = grind arith

quotients_keep : (step a b : ℕ) → a ≤ b → a / suc step ≤ b / suc step
quotients_keep step a b is = le-div (a / suc step) b (suc step) (omega arith) (up_to (div-mul-le_self a (suc step)) is)

pub floor_keeps : (step : ℕ) (x y : ℤ) → x ≤ℤ y → floor_to (suc step) x ≤ℤ floor_to (suc step) y
floor_keeps step (pos a) (pos b) is =
    let few : a ≤ b = grind arith in
    let more : a / suc step * suc step ≤ b / suc step * suc step = mul-le-mul_right (suc step) (quotients_keep step a b few) in
    grind arith
floor_keeps step (pos a) (negsuc b) is = absurd (grind arith)
floor_keeps step (negsuc a) (pos b) is = grind arith
floor_keeps step (negsuc a) (negsuc b) is =
    let few : b ≤ a = grind arith in
    let more : suc (b / suc step) * suc step ≤ suc (a / suc step) * suc step =
    mul-le-mul_right (suc step) (let q : b / suc step ≤ a / suc step = quotients_keep step b a few in omega arith) in
    grind arith

negated : (x y : ℤ) → x ≤ℤ y → neg_ℤ y ≤ℤ neg_ℤ x
negated x y is = grind arith

pub ceil_keeps : (step : ℕ) (x y : ℤ) → x ≤ℤ y → ceil_to (suc step) x ≤ℤ ceil_to (suc step) y
ceil_keeps step x y is =
    negated (floor_to (suc step) (neg_ℤ y)) (floor_to (suc step) (neg_ℤ x)) (floor_keeps step (neg_ℤ y) (neg_ℤ x) (negated x y is))

-- ---- a multiple is its own floor

abbrev pub IsMultiple : ℕ → ℤ → Type 0
IsMultiple step x = (q : ℤ) × (x ≡ q *ℤ pos step)

quotient_is : (step : ℕ) (q : ℤ) → int_div_euclid (q *ℤ pos (suc step)) (pos (suc step)) ≡ q
quotient_is step (pos a) = ap pos (ap (λ n. n / suc step) (let n : a * suc step ≡ a * suc step + 0 = omega arith in n) ∙ div-mul-add a (suc step) 0 (omega arith))
quotient_is step (negsuc a) =
    let same : suc a * suc step ≡ suc (a * suc step + step) = omega arith in
    ap (λ n. int_div_euclid (neg_ℤ (pos n)) (pos (suc step))) same ∙ ap negsuc (div-mul-add a (suc step) step (omega arith))

pub floor_of_multiple : (step : ℕ) (x : ℤ) → IsMultiple (suc step) x → floor_to (suc step) x ≡ x
floor_of_multiple step x (q, is) =
    ap (λ x. int_div_euclid x (pos (suc step)) *ℤ pos (suc step)) is ∙ ap (λ q. q *ℤ pos (suc step)) (quotient_is step q) ∙ sym is

negated_product : (step : ℕ) (q : ℤ) → neg_ℤ (q *ℤ pos step) ≡ neg_ℤ q *ℤ pos step
negated_product step q = grind arith

pub ceil_is_multiple : (step : ℕ) (x : ℤ) → IsMultiple step (ceil_to step x)
ceil_is_multiple step x = (neg_ℤ (int_div_euclid (neg_ℤ x) (pos step)), negated_product step (int_div_euclid (neg_ℤ x) (pos step)))

next_product : (step : ℕ) (q : ℤ) → q *ℤ pos step +ℤ pos step ≡ (q +ℤ pos 1) *ℤ pos step
next_product step (pos a) = ap pos (let same : a * step + step ≡ (a + 1) * step = omega arith in same)
next_product step (negsuc zero) = let same : 1 * step ≡ step = omega arith in grind arith
next_product step (negsuc (suc a)) = let same : suc (suc a) * step ≡ suc a * step + step = omega arith in grind arith

pub next_is_multiple : (step : ℕ) (x : ℤ) → IsMultiple step x → IsMultiple step (x +ℤ pos step)
next_is_multiple step x (q, is) = (q +ℤ pos 1, ap (λ x. x +ℤ pos step) is ∙ next_product step q)

-- so it lies below the floor of what it lies below
pub below_floor : (step : ℕ) (x y : ℤ) → IsMultiple (suc step) x → x ≤ℤ y → x ≤ℤ floor_to (suc step) y
below_floor step x y multiple is = subst (λ z. z ≤ℤ floor_to (suc step) y) (floor_of_multiple step x multiple) (floor_keeps step x y is)

-- ---- the last one in a window

under_self : (n s : ℕ) → n / suc s * suc s ≤ n
under_self n s = div-mul-le_self n (suc s)

pub floor_under : (step : ℕ) (x : ℤ) → floor_to (suc step) x ≤ℤ x
floor_under step (pos a) = let few = under_self a step in grind (arith, few)
floor_under step (negsuc a) = grind arith

pub more_is_multiple : (step k : ℕ) (x : ℤ) → IsMultiple step x → IsMultiple step (x +ℤ pos (k * step))
more_is_multiple step zero x multiple = subst (IsMultiple step) (let same : x ≡ x +ℤ pos (0 * step) = grind arith in same) multiple
more_is_multiple step (suc k) x multiple =
    subst (IsMultiple step) (let same : (x +ℤ pos step) +ℤ pos (k * step) ≡ x +ℤ pos (suc k * step) = grind arith in same)
    (more_is_multiple step k (x +ℤ pos step) (next_is_multiple step x multiple))

quotient_near : (step : ℕ) (q : ℤ) (r : ℕ) → r < suc step → int_div_euclid (q *ℤ pos (suc step) +ℤ pos r) (pos (suc step)) ≡ q
quotient_near step (pos a) r few = ap pos (div-mul-add a (suc step) r few)
quotient_near step (negsuc a) r few =
    let same : negsuc a *ℤ pos (suc step) +ℤ pos r ≡ negsuc (a * suc step + (step - r)) = negative a (suc step) r (step - r) (omega arith) in
    ap (λ n. int_div_euclid n (pos (suc step))) same ∙ ap negsuc (div-mul-add a (suc step) (step - r) (omega arith))
  where
    negative : (a s r u : ℕ) → suc (r + u) ≡ s → negsuc a *ℤ pos s +ℤ pos r ≡ negsuc (a * s + u)
    negative a s r u is = let more : suc a * s ≡ a * s + s = omega arith in grind (arith, more)

pub floor_near_multiple : (step : ℕ) (x : ℤ) (r : ℕ) → r < suc step → IsMultiple (suc step) x → floor_to (suc step) (x +ℤ pos r) ≡ x
floor_near_multiple step x r few (q, is) =
    ap (λ x. int_div_euclid (x +ℤ pos r) (pos (suc step)) *ℤ pos (suc step)) is ∙ ap (λ q. q *ℤ pos (suc step)) (quotient_near step q r few) ∙ sym is

split_gap : (c last : ℤ) (g m r : ℕ) → c ≤ℤ last → g ≡ int_gap c last → m + r ≡ g → last ≡ (c +ℤ pos m) +ℤ pos r
split_gap c last g m r below is sum = grind arith

-- the last multiple in a window, counted from the first one
pub last_multiple : (step : ℕ) (first last : ℤ) → ceil_to (suc step) first ≤ℤ last
    → floor_to (suc step) last ≡ ceil_to (suc step) first +ℤ pos (int_gap (ceil_to (suc step) first) last / suc step * suc step)
last_multiple step first last below =
    let c = ceil_to (suc step) first in
    let g = int_gap c last in
    let m = g / suc step * suc step in
    ap (floor_to (suc step)) (split_gap c last g m (g % suc step) below refl (div-add-mod' g (suc step)))
    ∙ floor_near_multiple step (c +ℤ pos m) (g % suc step) (mod-lt g (omega arith)) (more_is_multiple (suc step) (g / suc step) c (ceil_is_multiple (suc step) first))

-- The times of a query lie between the first and the last of them.
use Rattle.std.proofs.Common.{◌≡◌, refl, sym, ap, arith, subst, ℕ, ◌*◌, ◌/◌, ◌<◌, ◌≤◌, Bool, true, false, cond, Some, None}
use Rattle.std.specs.Prelude.{ℤ, int_le, max, unsigned_abs}
use Rattle.std.specs.Int.Signed.{◌≤ℤ◌}
use Rattle.std.proofs.Math.IntN.{pos, ◌+ℤ◌, ◌-ℤ◌}
use Rattle.std.proofs.Math.Nat.{div-mul-le_self, mul-le-mul_right}
use Rattle.std.proofs.lemmas.Nat.{le-div}
use Rattle.promql_when.specs.Windows.{IsAsked, asked, last_time}
use Rattle.promql_when.specs.declared.times.Times.{Times}
use Rattle.promql_when.specs.declared.times.Window.{Window}
use Rattle.promql_when.proofs.Orders.{le_of, of_le}

gap_holds : (a b : ℤ) (n : ℕ) → (a +ℤ pos n) ≤ℤ b → n ≤ unsigned_abs (b -ℤ a)
gap_holds a b n is = grind arith

above : (a b : ℤ) (n : ℕ) → (a +ℤ pos n) ≤ℤ b → a ≤ℤ b
above a b n is = grind arith

further : (a : ℤ) (m n : ℕ) → m ≤ n → (a +ℤ pos m) ≤ℤ (a +ℤ pos n)
further a m n is = grind arith

some_step : (step : ℕ) → 0 < max step 1
some_step step = omega arith

-- the window of all times
abbrev pub whole : Times → Window
whole ts = record { first = ts.start; last = last_time ts }

pub asked_is : (ts : Times) (x : ℤ) → IsAsked ts x → asked ts ≡ Some (whole ts)
asked_is ts x (k, is, early) =
    let n = k * max ts.step 1 in
    ap (λ b. cond b (Some (whole ts)) None) (of_le ts.start ts.end (above ts.start ts.end n (subst (λ y. y ≤ℤ ts.end) is early)))

pub asked_above : (ts : Times) (x : ℤ) → IsAsked ts x → ts.start ≤ℤ x
asked_above ts x (k, is, early) = subst (λ y. ts.start ≤ℤ y) (sym is) (later_than ts.start (k * max ts.step 1))
  where
    later_than : (a : ℤ) (n : ℕ) → a ≤ℤ (a +ℤ pos n)
    later_than a n = grind arith

pub asked_below : (ts : Times) (x : ℤ) → IsAsked ts x → x ≤ℤ last_time ts
asked_below ts x (k, is, early) =
    let step = max ts.step 1 in
    let gap = unsigned_abs (ts.end -ℤ ts.start) in
    let steps : k ≤ gap / step = le-div k gap step (some_step ts.step) (gap_holds ts.start ts.end (k * step) (subst (λ y. y ≤ℤ ts.end) is early)) in
    subst (λ y. y ≤ℤ last_time ts) (sym is) (further ts.start (k * step) (gap / step * step) (mul-le-mul_right step steps))

-- ---- both ends are asked

first_asked : (ts : Times) → ts.start ≤ℤ ts.end → IsAsked ts ts.start
first_asked ts some = (0, none_later ts.start (max ts.step 1), some)
  where
    none_later : (x : ℤ) (n : ℕ) → x ≡ x +ℤ pos (0 * n)
    none_later x n = grind arith

last_asked : (ts : Times) → ts.start ≤ℤ ts.end → IsAsked ts (last_time ts)
last_asked ts some =
    let gap = unsigned_abs (ts.end -ℤ ts.start) in
    (gap / max ts.step 1, refl, before ts.start ts.end (gap / max ts.step 1 * max ts.step 1) some (div-mul-le_self gap (max ts.step 1)))
  where
    before : (a b : ℤ) (n : ℕ) → a ≤ℤ b → n ≤ unsigned_abs (b -ℤ a) → (a +ℤ pos n) ≤ℤ b
    before a b n is few = grind arith

some_asked : (ts : Times) (w : Window) (b : Bool) → int_le ts.start ts.end ≡ b → cond b (Some (whole ts)) None ≡ Some w → (ts.start ≤ℤ ts.end) × (whole ts ≡ w)
some_asked ts w true is same = (le_of ts.start ts.end is, cc)
some_asked ts w false is same = absurd (cc)

asked_whole : (ts : Times) (w : Window) → asked ts ≡ Some w → (ts.start ≤ℤ ts.end) × (whole ts ≡ w)
asked_whole ts w is = some_asked ts w (int_le ts.start ts.end) refl is

pub asked_ends : (ts : Times) (w : Window) → asked ts ≡ Some w → IsAsked ts w.first × IsAsked ts w.last
asked_ends ts w is =
    let found = asked_whole ts w is in
    subst (λ w. IsAsked ts w.first × IsAsked ts w.last) found.1 (first_asked ts found.0, last_asked ts found.0)

pub asked_order : (ts : Times) (w : Window) → asked ts ≡ Some w → w.first ≤ℤ w.last
asked_order ts w is =
    let found = asked_whole ts w is in
    subst (λ w. w.first ≤ℤ w.last) found.1 (later ts.start (unsigned_abs (ts.end -ℤ ts.start) / max ts.step 1 * max ts.step 1))
  where
    later : (a : ℤ) (n : ℕ) → a ≤ℤ (a +ℤ pos n)
    later a n = grind arith

-- How far a floor is from what it is of.
use Rattle.std.proofs.Common.{◌≡◌, sym, arith, ℕ, zero, suc, ◌+◌, ◌*◌, ◌/◌, ◌<◌, ◌≤◌, ◌^◌, Some, None}
use Rattle.std.proofs.Math.Nat.{div-mul-le_self}
use Rattle.std.proofs.lemmas.Int.{fits_signed_from_abs}
use Rattle.std.specs.Prelude.{ℤ, FitsSigned, if◌then◌else◌, int_le, unsigned_abs}
use Rattle.std.specs.Int.{w128}
use Rattle.std.specs.Int.Signed.{◌≤ℤ◌}
use Rattle.std.proofs.Math.IntN.{pos, negsuc, neg_ℤ}
use Rattle.promql_when.specs.Windows.{ceil_to, floor_to, narrowed}
use Rattle.promql_when.specs.declared.times.Window.{Window}

pub whole_within : (n k : ℕ) → n / k * k ≤ n
whole_within n k = div-mul-le_self n k

pub floor_near : (step : ℕ) (x : ℤ) → unsigned_abs (floor_to (suc step) x) ≤ unsigned_abs x + suc step
floor_near step (pos a) = let few = div-mul-le_self a (suc step) in omega (arith, few)
floor_near step (negsuc a) =
    let few = div-mul-le_self a (suc step) in
    let more : suc (a / suc step) * suc step ≡ a / suc step * suc step + suc step = omega arith in
    grind (arith, few, more)

pub floor_small : (step : ℕ) (x : ℤ) → 0 < step → step < 2 ^ 80 → unsigned_abs x < 2 ^ 80 → unsigned_abs (floor_to step x) < 2 ^ 81
floor_small zero x some few small = absurd (omega arith)
floor_small (suc step) x some few small = let near = floor_near step x in omega (arith, near)

pub floor_fits : (step : ℕ) (x : ℤ) → 0 < step → step < 2 ^ 80 → unsigned_abs x < 2 ^ 80 → FitsSigned w128 (floor_to step x)
floor_fits step x some few small = let near = floor_small step x some few small in fits_signed_from_abs w128 (floor_to step x) (omega (arith, near))

pub floor_below : (step : ℕ) (x : ℤ) → 0 < step → floor_to step x ≤ℤ x
floor_below zero x some = absurd (omega arith)
floor_below (suc step) (pos a) some = let few = div-mul-le_self a (suc step) in grind (arith, few)
floor_below (suc step) (negsuc a) some = grind arith

pub ceil_over : (step : ℕ) (x : ℤ) → 0 < step → x ≤ℤ ceil_to step x
ceil_over step x some = let below = floor_below step (neg_ℤ x) some in grind (arith, below)

pub narrowed_at : (step : ℕ) (w : Window) (first last : ℤ) → 0 < step → first ≡ ceil_to step w.first → last ≡ floor_to step w.last
    → narrowed step w ≡ (if int_le first last then Some (record { first = first; last = last }) else None)
narrowed_at zero w first last some low high = absurd (omega arith)
narrowed_at (suc n) w first last some low high =
    λ i. if int_le (sym low i) (sym high i) then Some (record { first = sym low i; last = sym high i }) else None

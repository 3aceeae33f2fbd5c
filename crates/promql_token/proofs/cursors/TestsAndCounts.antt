-- Small facts on tests and counts.
use Rattle.std.proofs.Common.{◌≡◌, ℕ, suc, Bool, true, false, refl, arith}
use Rattle.std.specs.Prelude.{◌==◌, ◌&&◌, ◌||◌}
use Rattle.std.proofs.lemmas.Grind.{common_steps}

-- by a test
pub by_bool : (c : Bool) {X : Type 0} → (c ≡ true → X) → (c ≡ false → X) → X
by_bool true f g = f refl
by_bool false f g = g refl

pub or_false : (a b : Bool) → (a || b) ≡ false → (a ≡ false) × (b ≡ false)
or_false true b h = absurd (cc)
or_false false b h = (refl, h)

pub and_both : (a b : Bool) → a ≡ true → b ≡ true → (a && b) ≡ true
and_both true b e h = h
and_both false b e h = e

pub not_zero : (n : ℕ) → (suc n == 0) ≡ false
not_zero n = grind (arith, common_steps)

pub not_one : (n : ℕ) → (suc (suc n) == 1) ≡ false
not_one n = grind (arith, common_steps)

pub same_number : (n : ℕ) → (n == n) ≡ true
same_number n = grind (arith, common_steps)

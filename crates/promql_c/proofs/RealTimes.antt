-- A time of 64 bits that is passed is itself.
use Rattle.std.proofs.Common.{SFits, ℤ, of_z, subst, to_z, w64}
use Rattle.std.proofs.lemmas.Int.{to_z-of_z}

pub at_time : (P : ℤ → Type 0) (x : ℤ) → SFits w64 x → P (to_z w64 (of_z w64 x)) → P x
at_time P x fits is = subst P (to_z-of_z w64 x fits) is

pub at_times : (P : ℤ → ℤ → Type 0) (x y : ℤ) → SFits w64 x → SFits w64 y → P (to_z w64 (of_z w64 x)) (to_z w64 (of_z w64 y)) → P x y
at_times P x y fits others is = at_time (λ a. P a y) x fits (at_time (λ b. P (to_z w64 (of_z w64 x)) b) y others is)

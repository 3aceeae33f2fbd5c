-- Two tests that decide one fact are one.
use Rattle.std.proofs.Common.{◌≡◌, ◌↔◌, IsTrue, Bool, true, false, refl, sym}

pub same_test : {P : Type 0} (a b : Bool) → IsTrue a ↔ P → IsTrue b ↔ P → a ≡ b
same_test true true d e = refl
same_test false false d e = refl
same_test true false d e = sym (e.1 (d.0 refl))
same_test false true d e = d.1 (e.0 refl)

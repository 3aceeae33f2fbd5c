-- An offset is printable where its length is.
use Rattle.std.proofs.Common.{◌≡◌, ◌⊎◌, inl, inr, ℕ, Option, Some, None, refl, subst}
use Rattle.std.specs.Prelude.{◌↔◌}
use Rattle.promql_ast.specs.Shifts.{Shift, back, ahead}
use Rattle.promql_rewrite.specs.PrintableConditions.{PrintableOffset, PrintableTime}

of_length : (o : Option Shift) → PrintableOffset o → (n : ℕ) → (o ≡ Some (back n)) ⊎ (o ≡ Some (ahead n)) → PrintableTime n
of_length None h n (inl e) = cc
of_length None h n (inr e) = cc
of_length (Some (back m)) h n (inl e) = let same : m ≡ n = cc in subst PrintableTime same h
of_length (Some (back m)) h n (inr e) = cc
of_length (Some (ahead m)) h n (inl e) = cc
of_length (Some (ahead m)) h n (inr e) = let same : m ≡ n = cc in subst PrintableTime same h

by_length : (o : Option Shift) → ((n : ℕ) → (o ≡ Some (back n)) ⊎ (o ≡ Some (ahead n)) → PrintableTime n) → PrintableOffset o
by_length None h = tt
by_length (Some (back n)) h = h n (inl refl)
by_length (Some (ahead n)) h = h n (inr refl)

pub offset_is : (o : Option Shift) → PrintableOffset o ↔ ((n : ℕ) → (o ≡ Some (back n)) ⊎ (o ≡ Some (ahead n)) → PrintableTime n)
offset_is o = (of_length o, by_length o)

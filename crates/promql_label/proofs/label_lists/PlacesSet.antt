-- A list in which one place was set to what looks the same.
use Rattle.std.proofs.Common.{◌≡◌, ℕ, zero, suc, ◌<◌, List, [], ◌∷◌, map, length, get_or, slice_set, ap, arith}

pub map_after_set : {A B : Type 0} (f : A → B) (xs : List A) (i : ℕ) (d y : A) → i < length xs → f y ≡ f (get_or xs i d)
    → map f (slice_set xs i y) ≡ map f xs
map_after_set f [] i d y within same = absurd (omega (arith, within))
map_after_set f (x ∷ xs) zero d y within same = ap (λ b. b ∷ map f xs) same
map_after_set f (x ∷ xs) (suc i) d y within same = ap (λ bs. f x ∷ bs) (map_after_set f xs i d y (omega (arith, within)) same)

-- What is found among what passes a test.
use Rattle.std.proofs.Common.{◌≡◌, refl, sym, ◌∙◌, ap, Bool, true, false, cond, List, [], ◌∷◌, true≢false}
use Rattle.std.specs.Prelude.{filter}

-- a test finds the same among what passes another one, where it finds nothing else
pub found_among : {A : Type 0} (q p : A → Bool) (xs : List A) → ((x : A) → q x ≡ true → p x ≡ true) → filter q xs ≡ filter q (filter p xs)
found_among q p [] only = refl
found_among q p (x ∷ xs) only = go (p x) (q x) refl refl (found_among q p xs only)
  where
    go : (a b : Bool) → p x ≡ a → q x ≡ b → filter q xs ≡ filter q (filter p xs)
        → cond (q x) (x ∷ filter q xs) (filter q xs) ≡ filter q (cond (p x) (x ∷ filter p xs) (filter p xs))
    go true b passes is again =
        (λ i. cond (q x) (x ∷ again i) (again i))
        ∙ ap (λ a. filter q (cond a (x ∷ filter p xs) (filter p xs))) (sym passes)
    go false false fails missed again =
        ap (λ b. cond b (x ∷ filter q xs) (filter q xs)) missed
        ∙ again
        ∙ ap (λ a. filter q (cond a (x ∷ filter p xs) (filter p xs))) (sym fails)
    go false true fails found again = absurd (true≢false (sym (only x found) ∙ fails))

-- Lists of the same elements, in the order of their keys, are one list.
use Rattle.std.proofs.Common.{◌≡◌, ℕ, zero, suc, ◌<◌, List, [], ◌∷◌, refl, sym, ap, subst, ◌∙◌, inl, inr, ⊎_elim, arith}
use Rattle.std.specs.Prelude.{◌⊎◌}
use Rattle.std.specs.List.{AllPairs, Contains}

module _ {X : Type 0} where
  front : (x : X) (xs : List X) → Contains (x ∷ xs) x
  front x xs = (0, omega arith, refl)

  later : (x : X) (xs : List X) (z : X) → Contains xs z → Contains (x ∷ xs) z
  later x xs z (k, lt, is) = (suc k, omega arith, is)

  contains_first_or_rest : (x : X) (xs : List X) (z : X) → Contains (x ∷ xs) z → (x ≡ z) ⊎ Contains xs z
  contains_first_or_rest x xs z (zero, lt, is) = inl is
  contains_first_or_rest x xs z (suc k, lt, is) = inr (k, omega arith, is)

  nowhere : (z : X) → Contains [] z → ⊥
  nowhere z (k, lt, is) = absurd (omega arith)

  module _ (key : X → ℕ) where
    abbrev Rising : List X → Type 0
    Rising xs = AllPairs (λ x y. key x < key y) xs

    first_below : (x : X) (xs : List X) (z : X) → Rising (x ∷ xs) → Contains xs z → key x < key z
    first_below x xs z rising (k, lt, is) = let below = rising 0 (suc k) z (omega arith) (omega arith) in subst (λ y. key x < key y) is below

    rest_rising : (x : X) (xs : List X) → Rising (x ∷ xs) → Rising xs
    rest_rising x xs rising = λ i j d lt bound. rising (suc i) (suc j) d (omega arith) (omega arith)

    same_first : (x y : X) (xs ys : List X) → Rising (x ∷ xs) → Rising (y ∷ ys) → Contains (y ∷ ys) x → Contains (x ∷ xs) y → x ≡ y
    same_first x y xs ys p q there back =
        ⊎_elim
        (λ (e : y ≡ x). sym e)
        (λ in_ys. ⊎_elim (λ (e : x ≡ y). e) (λ in_xs. absurd (omega (arith, first_below y ys x q in_ys, first_below x xs y p in_xs))) (contains_first_or_rest x xs y back))
        (contains_first_or_rest y ys x there)

    still_there : (x y : X) (xs ys : List X) (z : X) → x ≡ y → Rising (x ∷ xs) → Contains (y ∷ ys) z → Contains xs z → Contains ys z
    still_there x y xs ys z same p there in_xs =
        ⊎_elim (λ (e : y ≡ z). absurd (omega (arith, first_below x xs z p in_xs, ap key (same ∙ e)))) (λ in_ys. in_ys) (contains_first_or_rest y ys z there)

    pub one_order : (xs ys : List X) → Rising xs → Rising ys → ((z : X) → Contains xs z → Contains ys z) → ((z : X) → Contains ys z → Contains xs z) → xs ≡ ys
    one_order [] [] p q to from = refl
    one_order [] (y ∷ ys) p q to from = absurd (nowhere y (from y (front y ys)))
    one_order (x ∷ xs) [] p q to from = absurd (nowhere x (to x (front x xs)))
    one_order (x ∷ xs) (y ∷ ys) p q to from =
        let same = same_first x y xs ys p q (to x (front x xs)) (from y (front y ys)) in
        let rest = one_order xs ys (rest_rising x xs p) (rest_rising y ys q)
        (λ z h. still_there x y xs ys z same p (to z (later x xs z h)) h)
        (λ z h. still_there y x ys xs z (sym same) q (from z (later y ys z h)) h) in
        ap (λ z. z ∷ xs) same ∙ ap (λ zs. y ∷ zs) rest

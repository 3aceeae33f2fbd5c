-- No group is empty exactly if none of the rest is, where the first is not.
use Rattle.std.proofs.Common.{◌≡◌, ◌+◌, ◌<◌, ◌↔◌, ℕ, sym, ◌∙◌, ap, subst, arith, false, true, List, [], ◌∷◌, drop, get_or, length, map}
use Rattle.std.specs.Prelude.{◌==◌}
use Rattle.std.proofs.lemmas.Bool.Decides.{Decides-eqb}
use Rattle.std.proofs.lemmas.List.{drop_more}
use Rattle.promql_label.specs.PlainMatchers.{PlainMatcher}
use Rattle.promql_rewrite.specs.PrintableNodes.{NoneEmpty}

module _ {X Y : Type 0} (items : Y → List X) (h : X → PlainMatcher) (ys : List Y) (i : ℕ) (d : Y) (within : i < length ys) where
  abbrev group : Y → List PlainMatcher
  group y = map h (items y)

  some_first : (xs : List X) (gs : List (List PlainMatcher)) → (length xs == 0) ≡ false → NoneEmpty gs ↔ NoneEmpty (map h xs ∷ gs)
  some_first [] gs e = cc
  some_first (x ∷ xs) gs e = (λ k. k, λ k. k)

  none_first : (xs : List X) (gs : List (List PlainMatcher)) → (length xs == 0) ≡ true → NoneEmpty (map h xs ∷ gs) → ⊥
  none_first [] gs e k = k
  none_first (x ∷ xs) gs e k = let none : length (x ∷ xs) ≡ 0 = (Decides-eqb (length (x ∷ xs)) 0).0 e in omega (arith, none)

  pub one_more : d ≡ get_or ys i d → (length (items d) == 0) ≡ false → NoneEmpty (map group (drop i ys)) ↔ NoneEmpty (map group ys) → NoneEmpty (map group (drop (i + 1) ys)) ↔ NoneEmpty (map group ys)
  one_more same some k =
      let first = some_first (items (get_or ys i d)) (map group (drop (i + 1) ys)) (sym (ap (λ y. length (items y) == 0) same) ∙ some) in
      let here = subst (λ zs. NoneEmpty (map group zs) ↔ NoneEmpty (map group ys)) (drop_more ys i d within) k in
      (λ j. here.0 (first.0 j), λ j. first.1 (here.1 j))

  pub one_empty : d ≡ get_or ys i d → (length (items d) == 0) ≡ true → NoneEmpty (map group (drop i ys)) ↔ NoneEmpty (map group ys) → NoneEmpty (map group ys) → ⊥
  one_empty same none k j =
      let here = subst (λ zs. NoneEmpty (map group zs)) (drop_more ys i d within) (k.1 j) in
      none_first (items (get_or ys i d)) (map group (drop (i + 1) ys)) (sym (ap (λ y. length (items y) == 0) same) ∙ none) here

-- Lists of arguments, as lists of the code and as lists of trees.
use Rattle.std.proofs.Common.{◌≡◌, ◌∙◌, ◌+◌, ◌-◌, suc, slice_get, List, [], ◌∷◌, ◌++◌, Some, map, length, refl, sym, ap, arith}
use Rattle.promql_ast.specs.Arguments.{append_tree, count, last_of}
use Rattle.promql_ast.specs.Tree.{Tree, first_tree}
use Rattle.promql_ast.specs.View.{trees}

module _ {X : Type 0} (f : X → Tree) where
  pub count_trees : (xs : List X) → length xs ≡ count (trees (map f xs))
  count_trees [] = refl
  count_trees (x ∷ xs) =
      let one : suc (count (trees (map f xs))) ≡ count (trees (map f xs)) + 1 = omega arith in
      ap suc (count_trees xs) ∙ one

  pub appended_trees : (xs : List X) (x : X) → trees (map f (xs ++ x ∷ [])) ≡ append_tree (trees (map f xs)) (f x)
  appended_trees [] x = refl
  appended_trees (y ∷ xs) x = ap (first_tree (f y)) (appended_trees xs x)

  pub count_more : (xs : List X) (x : X) → count (trees (map f (xs ++ x ∷ []))) ≡ length xs + 1
  count_more [] x = refl
  count_more (y ∷ xs) x = ap (λ n. n + 1) (count_more xs x)
      ∙ (let one : length xs + 1 + 1 ≡ suc (length xs) + 1 = omega arith in one)

  pub last_at : (xs : List X) (x : X) → slice_get xs (length xs - 1) ≡ Some x → last_of (trees (map f xs)) ≡ Some (f x)
  last_at [] x e = cc
  last_at (y ∷ []) x e = let same : y ≡ x = cc in ap (λ z. Some (f z)) same
  last_at (y ∷ z ∷ xs) x e =
      let one : suc (suc (length xs)) - 1 ≡ suc (length xs) = omega arith in
      let less : suc (length xs) - 1 ≡ length xs = omega arith in
      last_at (z ∷ xs) x (ap (slice_get (z ∷ xs)) less ∙ sym (ap (slice_get (y ∷ z ∷ xs)) one) ∙ e)

-- Lists in which each item is changed.
use Rattle.std.proofs.Common.{◌≡◌, List, [], ◌∷◌, Option, map, refl, ap}
use Rattle.promql_kind.specs.Modifiers.{Clause, Matching}
use Rattle.promql_ast.specs.Mapped.{mapped, all_mapped}
use Rattle.promql_ast.specs.Selectors.{Selector}
use Rattle.promql_ast.specs.Tree.{Tree, first_tree}
use Rattle.promql_ast.specs.View.{trees}

-- the trees of a list, each with changed parts
pub mapped_trees : {X : Type 0} (s : Selector → Selector) (k : Option Clause → Option Clause) (m : Option Matching → Option Matching) (f : X → Tree) (xs : List X)
    → all_mapped s k m (trees (map f xs)) ≡ trees (map (λ x. mapped s k m (f x)) xs)
mapped_trees s k m f [] = refl
mapped_trees s k m f (x ∷ xs) = ap (first_tree (mapped s k m (f x))) (mapped_trees s k m f xs)

pub mapped_twice : {X Y Z : Type 0} (f : X → Y) (h : Y → Z) (xs : List X) → map (λ x. h (f x)) xs ≡ map h (map f xs)
mapped_twice f h [] = refl
mapped_twice f h (x ∷ xs) = ap (λ ys. h (f x) ∷ ys) (mapped_twice f h xs)

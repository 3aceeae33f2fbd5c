-- The normal forms of a list of trees.
use Rattle.std.proofs.Common.{◌≡◌, List, [], ◌∷◌, map, refl, ap}
use Rattle.promql_ast.specs.Normal.{normal, all_normal}
use Rattle.promql_ast.specs.Tree.{Tree, first_tree}
use Rattle.promql_ast.specs.View.{trees}

pub normal_trees : {X : Type 0} (f : X → Tree) (xs : List X) → all_normal (trees (map f xs)) ≡ trees (map (λ x. normal (f x)) xs)
normal_trees f [] = refl
normal_trees f (x ∷ xs) = ap (first_tree (normal (f x))) (normal_trees f xs)

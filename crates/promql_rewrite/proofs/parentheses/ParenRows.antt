-- Lists of trees in which parentheses are put.
use Rattle.std.proofs.Common.{◌≡◌, List, [], ◌∷◌, map, refl, ap}
use Rattle.promql_ast.specs.Tree.{Tree, first_tree}
use Rattle.promql_ast.specs.View.{trees}
use Rattle.promql_rewrite.specs.Parenthesizing.{all_parenthesized, parenthesized}

pub parenthesized_trees : {X : Type 0} (f : X → Tree) (xs : List X) → all_parenthesized (trees (map f xs)) ≡ trees (map (λ x. parenthesized (f x)) xs)
parenthesized_trees f [] = refl
parenthesized_trees f (x ∷ xs) = ap (first_tree (parenthesized (f x))) (parenthesized_trees f xs)

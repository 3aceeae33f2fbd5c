-- The children of a node (docs/reference/walks.md, "Order").
use Rattle.std.specs.Prelude.{[], ◌∷◌, ◌++◌}
use Rattle.promql_ast.specs.Fold.{within}
use Rattle.promql_ast.specs.Tree.{Tree, aggregate, unary, binary, paren, subquery, call, extension, absent, present, Trees, no_trees, first_tree}
use Rattle.promql_ast.specs.View.{trees}

-- in their order
abbrev pub children : Tree → Trees
children t = trees (within [] ◌++◌ (λ e below. e ∷ []) t)

-- the node with as many others in their places
abbrev pub with_children : Tree → Trees → Tree
with_children (aggregate op e absent m) (first_tree x no_trees) = aggregate op x absent m
with_children (aggregate op e (present p) m) (first_tree q (first_tree x no_trees)) = aggregate op x (present q) m
with_children (unary e) (first_tree x no_trees) = unary x
with_children (binary op l r m) (first_tree x (first_tree y no_trees)) = binary op x y m
with_children (paren e) (first_tree x no_trees) = paren x
with_children (subquery e offset at range step) (first_tree x no_trees) = subquery x offset at range step
with_children (call f args) xs = call f xs
with_children (extension name gives es) xs = extension name gives xs
with_children t _ = t

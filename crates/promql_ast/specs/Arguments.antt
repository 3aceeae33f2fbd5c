-- Lists of arguments (docs/reference/tree.md, "Calls").
use Rattle.std.specs.Prelude.{ℕ, ◌+◌, Option, Some, None}
use Rattle.promql_ast.specs.Tree.{Tree, Trees, no_trees, first_tree}

abbrev pub append_tree : Trees → Tree → Trees
append_tree no_trees u = first_tree u no_trees
append_tree (first_tree t ts) u = first_tree t (append_tree ts u)

abbrev pub count : Trees → ℕ
count no_trees = 0
count (first_tree t ts) = count ts + 1

abbrev pub first_of : Trees → Option Tree
first_of no_trees = None
first_of (first_tree t ts) = Some t

abbrev pub last_of : Trees → Option Tree
last_of no_trees = None
last_of (first_tree t no_trees) = Some t
last_of (first_tree t (first_tree u ts)) = last_of (first_tree u ts)

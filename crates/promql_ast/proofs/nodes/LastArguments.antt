-- The last argument is the one that was appended.
use Rattle.std.proofs.Common.{◌≡◌, Some, refl}
use Rattle.promql_ast.specs.Arguments.{append_tree, last_of}
use Rattle.promql_ast.specs.Tree.{Tree, Trees, no_trees, first_tree}

pub last_appended : (ts : Trees) (t : Tree) → last_of (append_tree ts t) ≡ Some t
last_appended no_trees t = refl
last_appended (first_tree u no_trees) t = refl
last_appended (first_tree u (first_tree v ts)) t = last_appended (first_tree v ts) t

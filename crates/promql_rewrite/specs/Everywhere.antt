-- What holds at each node of a tree.
use Rattle.std.specs.List.{AllByRecursion}
use Rattle.promql_ast.specs.Tree.{Tree}
use Rattle.promql_rewrite.specs.Collecting.{nodes_of}

abbrev pub Everywhere : (Tree → Type 0) → Tree → Type 0
Everywhere P t = AllByRecursion P (nodes_of t)

-- Nodes that the checks leave as they are (docs/reference/tree.md, "Well typed trees"). Private: nothing rests on
-- believing it.
use Rattle.std.specs.Prelude.{◌≡◌}
use Rattle.promql_ast.specs.Checked.{check_tree}
use Rattle.promql_ast.specs.Faults.{passes}
use Rattle.promql_ast.specs.Tree.{Tree, vector, matrix}

-- of a matrix selector its selector
abbrev pub PassesUnchanged : Tree → Type 0
PassesUnchanged (matrix s range mode) = check_tree (vector s) ≡ passes (vector s)
PassesUnchanged t = check_tree t ≡ passes t

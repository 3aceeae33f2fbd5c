-- What contracts see of the windows of a query, and of why there are none.
use Rattle.std.specs.Prelude.{◌≡◌, List, map, Option, Some}
use Rattle.std.specs.Option.{option_map_or}
use Rattle.promql_ast.specs.Selectors.{Selector}
use Rattle.promql_ast.specs.Tree.{Tree}
use Rattle.promql_ast.specs.View.{call_tree, matrix_tree, selector_of, subquery_tree, vector_tree}
use Rattle.promql_when.specs.Reads.{target_info}
use Rattle.promql_when.specs.declared.overflow.TimedNode.{TimedNode}
use Rattle.promql_when.specs.declared.overflow.TimedNode.TheVariants.{Vector, Matrix, Subquery, Info}
use Rattle.promql_when.specs.declared.overflow.WindowsError.{WindowsError}
use Rattle.promql_when.specs.declared.overflow.WindowsError.TheVariants.{Memory, TimeOverflow}
use Rattle.promql_when.specs.declared.reading.SelectorWindow.{SelectorWindow}
use Rattle.promql_when.specs.declared.times.Window.{Window}

abbrev pub found_of : List SelectorWindow → List (Selector × Option Window)
found_of = map (λ s. (option_map_or (λ v. selector_of v.now) s.selector target_info, s.window))

abbrev pub timed_tree : TimedNode → Tree
timed_tree (Vector v) = vector_tree v.now
timed_tree (Matrix m) = matrix_tree m.now
timed_tree (Subquery s) = subquery_tree s.now
timed_tree (Info c) = call_tree c.now

-- the error names this node, or memory ran out
abbrev pub IsErrorAt : Option Tree → WindowsError → Type 0
IsErrorAt found (TimeOverflow node) = found ≡ Some (timed_tree node)
IsErrorAt found Memory = Unit {0}

use Rattle.std.proofs.Common.{◌≡◌, drop}
use Rattle.promql_ast.specs.View.{children_of, trees_of}
use Rattle.promql_when.specs.Pinned.{any_asks_grid}
use Rattle.promql_when.proofs.pinning.+asks.Given as goal

abbrev pub invariant-args_ask_grid-loop-arg : goal.invariant-args_ask_grid-loop-arg
invariant-args_ask_grid-loop-arg l = any_asks_grid (trees_of (drop l.arg-index l.args)) ≡ any_asks_grid (trees_of l.args)

abbrev pub invariant-children_ask_grid-loop-child : goal.invariant-children_ask_grid-loop-child
invariant-children_ask_grid-loop-child l = any_asks_grid (children_of (drop l.child-index l.children)) ≡ any_asks_grid (children_of l.children)

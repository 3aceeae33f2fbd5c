use Rattle.std.proofs.Common.{◌≡◌, drop}
use Rattle.promql_ast.specs.View.{children_of, trees_of}
use Rattle.promql_when.specs.MayRead.{any_may_read, series_of}
use Rattle.promql_when.proofs.series.+may_read.Given as goal

abbrev pub invariant-args_may_read-loop-arg : goal.invariant-args_may_read-loop-arg
invariant-args_may_read-loop-arg l = any_may_read (series_of l.series) (trees_of (drop l.arg-index l.args)) ≡ any_may_read (series_of l.series) (trees_of l.args)

abbrev pub invariant-children_may_read-loop-child : goal.invariant-children_may_read-loop-child
invariant-children_may_read-loop-child l = any_may_read (series_of l.series) (children_of (drop l.child-index l.children)) ≡ any_may_read (series_of l.series) (children_of l.children)

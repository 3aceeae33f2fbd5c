use Rattle.std.proofs.Common.{drop}
use Rattle.promql_ast.specs.View.{children_of, trees_of}
use Rattle.promql_rewrite.specs.FoundReasons.{FoundAmong}
use Rattle.promql_rewrite.proofs.reasons.+reason.Given as goal

-- what is found among the rest is found among all
abbrev pub invariant-reason_in_args-loop-arg : goal.invariant-reason_in_args-loop-arg
invariant-reason_in_args-loop-arg l = (o : _) → FoundAmong o (trees_of (drop l.arg-index l.args)) → FoundAmong o (trees_of l.args)

abbrev pub invariant-reason_in_children-loop-child : goal.invariant-reason_in_children-loop-child
invariant-reason_in_children-loop-child l = (o : _) → FoundAmong o (children_of (drop l.child-index l.children)) → FoundAmong o (children_of l.children)

use Rattle.std.proofs.Common.{◌≡◌, drop}
use Rattle.promql_ast.specs.View.{children_of, trees_of}
use Rattle.promql_rewrite.specs.Collecting.{all_nodes}
use Rattle.promql_rewrite.specs.CollectedNames.{joined, names_in, names_of}
use Rattle.promql_rewrite.proofs.collecting.+collect.Given as goal

abbrev pub invariant-push_args-loop-arg : goal.invariant-push_args-loop-arg
invariant-push_args-loop-arg l =
    joined (names_of l.found) (names_in (all_nodes (trees_of (drop l.arg-index l.args))))
    ≡ joined (names_of l.initial.found) (names_in (all_nodes (trees_of l.args)))

abbrev pub invariant-push_children-loop-child : goal.invariant-push_children-loop-child
invariant-push_children-loop-child l =
    joined (names_of l.found) (names_in (all_nodes (children_of (drop l.child-index l.children))))
    ≡ joined (names_of l.initial.found) (names_in (all_nodes (children_of l.children)))

use Rattle.std.proofs.Common.{◌≡◌, drop}
use Rattle.std.specs.List.{list_any}
use Rattle.promql_ast.specs.View.{children_of, trees_of}
use Rattle.promql_rewrite.specs.Collecting.{all_nodes}
use Rattle.promql_rewrite.proofs.some_node.+some_node.Given as goal

abbrev pub invariant-has_in_args-loop-arg : goal.invariant-has_in_args-loop-arg
invariant-has_in_args-loop-arg g l =
    list_any (g.T.NodeTest.passing l.test) (all_nodes (trees_of (drop l.arg-index l.args)))
    ≡ list_any (g.T.NodeTest.passing l.test) (all_nodes (trees_of l.args))

abbrev pub invariant-has_in_children-loop-child : goal.invariant-has_in_children-loop-child
invariant-has_in_children-loop-child g l =
    list_any (g.T.NodeTest.passing l.test) (all_nodes (children_of (drop l.child-index l.children)))
    ≡ list_any (g.T.NodeTest.passing l.test) (all_nodes (children_of l.children))

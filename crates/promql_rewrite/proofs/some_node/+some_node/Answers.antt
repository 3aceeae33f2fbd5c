use Rattle.std.proofs.Common.{◌∙◌, ap, false, refl, sym}
use Rattle.std.specs.List.{list_any}
use Rattle.promql_ast.specs.View.{children_of, tree_of, trees_of}
use Rattle.promql_ast.proofs.nodes.NodeParts.{tree_of_call, tree_of_extension}
use Rattle.promql_rewrite.specs.Collecting.{all_nodes, nodes_of, nodes_within}
use Rattle.promql_rewrite.proofs.rules_broken.ListedNodes.{any_after, any_here, any_nowhere}
use Rattle.promql_rewrite.proofs.some_node.+some_node.Goals as goal

pub has_within-returns-in-Call : goal.has_within-returns-in-Call
has_within-returns-in-Call g t c =
    let p = g.T.NodeTest.passing c.args.test.now in
    c.has_in_args.ensures ∙ ap (λ bs. list_any p (all_nodes (trees_of bs))) c.as_slice.ensures.value ∙ sym (ap (λ t. list_any p (nodes_within t)) (ap tree_of c.in-Call.is ∙ tree_of_call c.in-Call.e))

pub has_within-returns-in-Extension : goal.has_within-returns-in-Extension
has_within-returns-in-Extension g t c =
    let p = g.T.NodeTest.passing c.args.test.now in
    c.has_in_children.ensures ∙ ap (λ es. list_any p (all_nodes (children_of es))) c.as_slice-in-Extension.ensures.value
    ∙ sym (ap (λ t. list_any p (nodes_within t)) (ap tree_of c.in-Extension.is ∙ tree_of_extension c.in-Extension.e))

pub has_in_args-returns-then-has_node : goal.has_in_args-returns-then-has_node
has_in_args-returns-then-has_node g t c =
    let p = g.T.NodeTest.passing c.args.test.now in
    any_here p (λ bs. all_nodes (trees_of bs)) c.args.args.now c.loop-arg.arg-index c.has_node.result _ c.arg-item.result (nodes_of (tree_of c.arg-item.result.value)) c.loop-arg-test.true c.arg-item.is refl
    (c.has_node.ensures ∙ ap (λ e. list_any p (nodes_of (tree_of e))) c.deref.ensures) c.if-has_node.true c.loop-arg.invariant

pub has_in_args-loop-arg-preserved : goal.has_in_args-loop-arg-preserved
has_in_args-loop-arg-preserved g t c =
    let p = g.T.NodeTest.passing c.args.test.now in
    any_after p (λ bs. all_nodes (trees_of bs)) c.args.args.now c.loop-arg.arg-index c.has_node.result _ c.arg-item.result (nodes_of (tree_of c.arg-item.result.value)) c.loop-arg-test.true c.arg-item.is refl
    (c.has_node.ensures ∙ ap (λ e. list_any p (nodes_of (tree_of e))) c.deref.ensures) c.if-has_node.false c.loop-arg.invariant

pub has_in_args-returns : goal.has_in_args-returns
has_in_args-returns g t c =
    any_nowhere (g.T.NodeTest.passing c.args.test.now) (λ bs. all_nodes (trees_of bs)) c.args.args.now c.loop-arg.arg-index false _ refl c.loop-arg-test.false c.loop-arg.invariant

pub has_in_children-returns-then-has_node : goal.has_in_children-returns-then-has_node
has_in_children-returns-then-has_node g t c =
    any_here (g.T.NodeTest.passing c.args.test.now) (λ es. all_nodes (children_of es)) c.args.children.now c.loop-child.child-index c.has_node.result _ c.child-item.result (nodes_of (tree_of c.child-item.result)) c.loop-child-test.true c.child-item.is refl
    c.has_node.ensures c.if-has_node.true c.loop-child.invariant

pub has_in_children-loop-child-preserved : goal.has_in_children-loop-child-preserved
has_in_children-loop-child-preserved g t c =
    any_after (g.T.NodeTest.passing c.args.test.now) (λ es. all_nodes (children_of es)) c.args.children.now c.loop-child.child-index c.has_node.result _ c.child-item.result (nodes_of (tree_of c.child-item.result)) c.loop-child-test.true c.child-item.is refl
    c.has_node.ensures c.if-has_node.false c.loop-child.invariant

pub has_in_children-returns : goal.has_in_children-returns
has_in_children-returns g t c =
    any_nowhere (g.T.NodeTest.passing c.args.test.now) (λ es. all_nodes (children_of es)) c.args.children.now c.loop-child.child-index false _ refl c.loop-child-test.false c.loop-child.invariant

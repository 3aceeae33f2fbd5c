use Rattle.std.proofs.Common.{◌∙◌, ap, refl, sym}
use Rattle.promql_ast.specs.View.{children_of, option_tree, tree_of, trees_of}
use Rattle.promql_ast.proofs.nodes.NodeParts.{tree_of_call, tree_of_extension}
use Rattle.promql_rewrite.specs.Collecting.{all_nodes, maybe_nodes, nodes_of, nodes_within}
use Rattle.promql_rewrite.specs.CollectedNames.{joined, names_in, names_of, own_names}
use Rattle.promql_rewrite.proofs.names.AppendedNames.{joined_all, joined_as, joined_both, joined_more, joined_nodes}
use Rattle.promql_ast.proofs.nodes.ChangedLists.{on_ok}
use Rattle.promql_rewrite.proofs.collecting.+collect.Goals as goal

pub push_expr-returns : goal.push_expr-returns
push_expr-returns t c =
    on_ok c.push_within.result _ _
    (λ more. joined_both (names_of c.args.found.now) _ _ (own_names (tree_of c.args.expr.now)) (names_in (nodes_within (tree_of c.args.expr.now))) c.in_ok-push_own.ensures more)
    c.push_within.ensures

pub push_within-returns-in-Call : goal.push_within-returns-in-Call
push_within-returns-in-Call t c =
    on_ok c.push_args.result _ _
    (joined_as (names_of c.args.found.now) _ _ _ (ap (λ bs. names_in (all_nodes (trees_of bs))) c.as_slice.ensures.value ∙ sym (ap (λ t. names_in (nodes_within t)) (ap tree_of c.in-Call.is ∙ tree_of_call c.in-Call.e))))
    c.push_args.ensures

pub push_within-returns-in-Extension : goal.push_within-returns-in-Extension
push_within-returns-in-Extension t c =
    on_ok c.push_children.result _ _
    (joined_as (names_of c.args.found.now) _ _ _
    (ap (λ es. names_in (all_nodes (children_of es))) c.as_slice-in-Extension.ensures.value ∙ sym (ap (λ t. names_in (nodes_within t)) (ap tree_of c.in-Extension.is ∙ tree_of_extension c.in-Extension.e))))
    c.push_children.ensures

pub push_aggregate-returns : goal.push_aggregate-returns
push_aggregate-returns t c =
    let node = c.args.node.now in
    on_ok c.push_expr.result _ _
    (λ more. joined_nodes (names_of c.args.found.now) _ _ (maybe_nodes (option_tree node.param)) (nodes_of (tree_of node.expr.value)) c.in_ok-push_param.ensures
    (more ∙ ap (λ e. joined (names_of c.push_param.new.found) (names_in (nodes_of (tree_of e)))) c.deref.ensures))
    c.push_expr.ensures

pub push_sides-returns : goal.push_sides-returns
push_sides-returns t c =
    let node = c.args.node.now in
    on_ok c.push_expr-2.result _ _
    (λ more. joined_nodes (names_of c.args.found.now) _ _ (nodes_of (tree_of node.lhs.value)) (nodes_of (tree_of node.rhs.value))
    (c.in_ok-push_expr.ensures ∙ ap (λ e. joined (names_of c.args.found.now) (names_in (nodes_of (tree_of e)))) c.deref.ensures)
    (more ∙ ap (λ e. joined (names_of c.push_expr.new.found) (names_in (nodes_of (tree_of e)))) c.deref-2.ensures))
    c.push_expr-2.ensures

pub push_args-loop-arg-preserved : goal.push_args-loop-arg-preserved
push_args-loop-arg-preserved t c =
    joined_more (λ bs. all_nodes (trees_of bs)) c.args.args.now c.loop-arg.arg-index (names_of c.loop-arg.found) _ c.arg-item.result (nodes_of (tree_of c.arg-item.result.value)) _ c.loop-arg-test.true c.arg-item.is refl
    (c.in_ok-push_expr.ensures ∙ ap (λ e. joined (names_of c.loop-arg.found) (names_in (nodes_of (tree_of e)))) c.deref.ensures) c.loop-arg.invariant

pub push_args-returns : goal.push_args-returns
push_args-returns t c = joined_all (λ bs. all_nodes (trees_of bs)) c.args.args.now c.loop-arg.arg-index (names_of c.loop-arg.found) _ refl c.loop-arg-test.false c.loop-arg.invariant

pub push_children-loop-child-preserved : goal.push_children-loop-child-preserved
push_children-loop-child-preserved t c =
    joined_more (λ es. all_nodes (children_of es)) c.args.children.now c.loop-child.child-index (names_of c.loop-child.found) _ c.child-item.result (nodes_of (tree_of c.child-item.result)) _ c.loop-child-test.true c.child-item.is refl
    c.in_ok-push_expr.ensures c.loop-child.invariant

pub push_children-returns : goal.push_children-returns
push_children-returns t c = joined_all (λ es. all_nodes (children_of es)) c.args.children.now c.loop-child.child-index (names_of c.loop-child.found) _ refl c.loop-child-test.false c.loop-child.invariant

use Rattle.std.proofs.Common.{true, Ok, refl, ap, ◌∙◌, sym, subst}
use Rattle.std.proofs.lemmas.List.{drop_all}
use Rattle.promql_ast.specs.View.{tree_of, option_tree, trees_of, children_of, aggregate_tree, call_tree, extension_tree}
use Rattle.promql_ast.proofs.nodes.NodeParts.{tree_of_aggregate, tree_of_call, tree_of_extension}
use Rattle.promql_json.specs.Events.{events, param_events, all_events}
use Rattle.promql_walk.specs.WalkSteps.{IdlesOr, Visit, WalksAlong}
use Rattle.promql_walk.proofs.Walks.{whole, ends_inside, ends_before, walked_both, walked_stops, walked_as, walked_below, next_goes, next_ends, drop_step, args_events, nodes_events}
use Rattle.promql_walk.proofs.visitor.+walk.Goals as goal

pub walk_expr-returns-in-Ok-true-walk_children : goal.walk_expr-returns-in-Ok-true-walk_children
walk_expr-returns-in-Ok-true-walk_children g t c =
    whole g.V.ExprVisitor.pre_gives (IdlesOr g.V.ExprVisitor.post_gives) (tree_of c.args.expr.now) _ _ _ _ _ _ _ c.pre_visit.ensures
    (c.in-Ok-true.is ∙ ap (λ b. Ok b) c.in-Ok-true.field-0-test) c.walk_children.ensures
    (c.in-Ok-true-walk_children.is ∙ ap (λ b. Ok b) c.in-Ok-true-walk_children.field-0-test) c.post_visit.ensures

pub walk_expr-returns-in-Ok-false-walk_children : goal.walk_expr-returns-in-Ok-false-walk_children
walk_expr-returns-in-Ok-false-walk_children g t c =
    ends_inside g.V.ExprVisitor.pre_gives (IdlesOr g.V.ExprVisitor.post_gives) (tree_of c.args.expr.now) _ _ _ _ _ _ c.pre_visit.ensures
    (c.in-Ok-true.is ∙ ap (λ b. Ok b) c.in-Ok-true.field-0-test) c.walk_children.ensures
    tt (c.in-Ok-false-walk_children.is ∙ ap (λ b. Ok b) c.in-Ok-false-walk_children.field-0-test)

pub walk_expr-returns-in-Err-walk_children : goal.walk_expr-returns-in-Err-walk_children
walk_expr-returns-in-Err-walk_children g t c =
    ends_inside g.V.ExprVisitor.pre_gives (IdlesOr g.V.ExprVisitor.post_gives) (tree_of c.args.expr.now) _ _ _ _ _ _ c.pre_visit.ensures
    (c.in-Ok-true.is ∙ ap (λ b. Ok b) c.in-Ok-true.field-0-test) c.walk_children.ensures tt c.in-Err-walk_children.is

pub walk_expr-returns-in-Ok-false : goal.walk_expr-returns-in-Ok-false
walk_expr-returns-in-Ok-false g t c =
    ends_before g.V.ExprVisitor.pre_gives (IdlesOr g.V.ExprVisitor.post_gives) (tree_of c.args.expr.now) _ _ _ _ c.pre_visit.ensures
    tt (c.in-Ok-false.is ∙ ap (λ b. Ok b) c.in-Ok-false.field-0-test)

pub walk_expr-returns-in-Err : goal.walk_expr-returns-in-Err
walk_expr-returns-in-Err g t c =
    ends_before g.V.ExprVisitor.pre_gives (IdlesOr g.V.ExprVisitor.post_gives) (tree_of c.args.expr.now) _ _ _ _ c.pre_visit.ensures tt c.in-Err.is

pub walk_children-returns-in-Ok-true-walk_expr : goal.walk_children-returns-in-Ok-true-walk_expr
walk_children-returns-in-Ok-true-walk_expr g t c =
    let step = Visit g.V.ExprVisitor.pre_gives (IdlesOr g.V.ExprVisitor.post_gives) in
    let left = walked_as g.V.ExprVisitor.pre_gives (IdlesOr g.V.ExprVisitor.post_gives) _ c.in-Binary.e.lhs.value _ _ _ c.deref-in-Binary.ensures c.walk_expr-in-Binary.ensures in
    let right = walked_as g.V.ExprVisitor.pre_gives (IdlesOr g.V.ExprVisitor.post_gives) _ c.in-Binary.e.rhs.value _ _ _ c.deref-in-Ok-true-walk_expr.ensures c.walk_expr-in-Ok-true-walk_expr.ensures in
    walked_below g.V.ExprVisitor.pre_gives (IdlesOr g.V.ExprVisitor.post_gives) c.args.expr.now _ _ _ _ (ap tree_of c.in-Binary.is)
    (walked_both step (events (tree_of c.in-Binary.e.lhs.value)) (events (tree_of c.in-Binary.e.rhs.value)) _ _ _ _ _ (c.in-Ok-true-walk_expr.is ∙ ap (λ b. Ok b) c.in-Ok-true-walk_expr.field-0-test) left right)

pub walk_children-returns-in-Ok-false-walk_expr : goal.walk_children-returns-in-Ok-false-walk_expr
walk_children-returns-in-Ok-false-walk_expr g t c =
    let step = Visit g.V.ExprVisitor.pre_gives (IdlesOr g.V.ExprVisitor.post_gives) in
    let left = walked_as g.V.ExprVisitor.pre_gives (IdlesOr g.V.ExprVisitor.post_gives) _ c.in-Binary.e.lhs.value _ _ _ c.deref-in-Binary.ensures c.walk_expr-in-Binary.ensures in
    walked_below g.V.ExprVisitor.pre_gives (IdlesOr g.V.ExprVisitor.post_gives) c.args.expr.now _ _ _ _ (ap tree_of c.in-Binary.is)
    (walked_stops step (events (tree_of c.in-Binary.e.lhs.value)) (events (tree_of c.in-Binary.e.rhs.value)) _ _ _ _ tt (c.in-Ok-false-walk_expr.is ∙ ap (λ b. Ok b) c.in-Ok-false-walk_expr.field-0-test) left)

pub walk_children-returns-in-Err-walk_expr : goal.walk_children-returns-in-Err-walk_expr
walk_children-returns-in-Err-walk_expr g t c =
    let step = Visit g.V.ExprVisitor.pre_gives (IdlesOr g.V.ExprVisitor.post_gives) in
    let left = walked_as g.V.ExprVisitor.pre_gives (IdlesOr g.V.ExprVisitor.post_gives) _ c.in-Binary.e.lhs.value _ _ _ c.deref-in-Binary.ensures c.walk_expr-in-Binary.ensures in
    walked_below g.V.ExprVisitor.pre_gives (IdlesOr g.V.ExprVisitor.post_gives) c.args.expr.now _ _ _ _ (ap tree_of c.in-Binary.is)
    (walked_stops step (events (tree_of c.in-Binary.e.lhs.value)) (events (tree_of c.in-Binary.e.rhs.value)) _ _ _ _ tt c.in-Err-walk_expr.is left)

pub walk_children-returns-in-Ok-true : goal.walk_children-returns-in-Ok-true
walk_children-returns-in-Ok-true g t c =
    let step = Visit g.V.ExprVisitor.pre_gives (IdlesOr g.V.ExprVisitor.post_gives) in
    let expr = walked_as g.V.ExprVisitor.pre_gives (IdlesOr g.V.ExprVisitor.post_gives) _ c.in-Aggregate.e.expr.value _ _ _ c.deref.ensures c.walk_expr.ensures in
    walked_below g.V.ExprVisitor.pre_gives (IdlesOr g.V.ExprVisitor.post_gives) c.args.expr.now (aggregate_tree c.in-Aggregate.e) _ _ _ (ap tree_of c.in-Aggregate.is ∙ tree_of_aggregate c.in-Aggregate.e)
    (walked_both step (param_events (option_tree c.in-Aggregate.e.param)) (events (tree_of c.in-Aggregate.e.expr.value)) _ _ _ _ _ (c.in-Ok-true.is ∙ ap (λ b. Ok b) c.in-Ok-true.field-0-test) c.walk_param.ensures expr)

pub walk_children-returns-in-Ok-false : goal.walk_children-returns-in-Ok-false
walk_children-returns-in-Ok-false g t c =
    let step = Visit g.V.ExprVisitor.pre_gives (IdlesOr g.V.ExprVisitor.post_gives) in
    walked_below g.V.ExprVisitor.pre_gives (IdlesOr g.V.ExprVisitor.post_gives) c.args.expr.now (aggregate_tree c.in-Aggregate.e) _ _ _ (ap tree_of c.in-Aggregate.is ∙ tree_of_aggregate c.in-Aggregate.e)
    (walked_stops step (param_events (option_tree c.in-Aggregate.e.param)) (events (tree_of c.in-Aggregate.e.expr.value)) _ _ _ _ tt (c.in-Ok-false.is ∙ ap (λ b. Ok b) c.in-Ok-false.field-0-test) c.walk_param.ensures)

pub walk_children-returns-in-Err : goal.walk_children-returns-in-Err
walk_children-returns-in-Err g t c =
    let step = Visit g.V.ExprVisitor.pre_gives (IdlesOr g.V.ExprVisitor.post_gives) in
    walked_below g.V.ExprVisitor.pre_gives (IdlesOr g.V.ExprVisitor.post_gives) c.args.expr.now (aggregate_tree c.in-Aggregate.e) _ _ _ (ap tree_of c.in-Aggregate.is ∙ tree_of_aggregate c.in-Aggregate.e)
    (walked_stops step (param_events (option_tree c.in-Aggregate.e.param)) (events (tree_of c.in-Aggregate.e.expr.value)) _ _ _ _ tt c.in-Err.is c.walk_param.ensures)

pub walk_children-returns-in-Call : goal.walk_children-returns-in-Call
walk_children-returns-in-Call g t c =
    walked_below g.V.ExprVisitor.pre_gives (IdlesOr g.V.ExprVisitor.post_gives) c.args.expr.now (call_tree c.in-Call.e) _ _ _ (ap tree_of c.in-Call.is ∙ tree_of_call c.in-Call.e)
    (subst (λ bs. WalksAlong (Visit g.V.ExprVisitor.pre_gives (IdlesOr g.V.ExprVisitor.post_gives)) (all_events (trees_of bs)) c.args.visitor.now c.walk_args.result c.walk_args.new.visitor) c.as_slice.ensures.value c.walk_args.ensures)

pub walk_children-returns-in-Extension : goal.walk_children-returns-in-Extension
walk_children-returns-in-Extension g t c =
    walked_below g.V.ExprVisitor.pre_gives (IdlesOr g.V.ExprVisitor.post_gives) c.args.expr.now (extension_tree c.in-Extension.e) _ _ _ (ap tree_of c.in-Extension.is ∙ tree_of_extension c.in-Extension.e)
    (subst (λ es. WalksAlong (Visit g.V.ExprVisitor.pre_gives (IdlesOr g.V.ExprVisitor.post_gives)) (all_events (children_of es)) c.args.visitor.now c.walk_nodes.result c.walk_nodes.new.visitor) c.as_slice-in-Extension.ensures.value c.walk_nodes.ensures)

pub walk_args-returns : goal.walk_args-returns
walk_args-returns g t c =
    c.loop-arg.invariant _ _ (subst (λ bs. WalksAlong (Visit g.V.ExprVisitor.pre_gives (IdlesOr g.V.ExprVisitor.post_gives)) (all_events (trees_of bs)) c.loop-arg.visitor (Ok true) c.loop-arg.visitor) (sym (drop_all c.loop-arg.arg-index c.args.args.now c.loop-arg-test.false)) (refl, refl))

pub walk_args-loop-arg-preserved : goal.walk_args-loop-arg-preserved
walk_args-loop-arg-preserved g t c =
    λ r u more. c.loop-arg.invariant r u (next_goes g.V.ExprVisitor.pre_gives (IdlesOr g.V.ExprVisitor.post_gives) (λ b. tree_of b.value) args_events (λ b bs. refl) _ c.arg-item.result _ _ _ _ _ _
    (drop_step c.args.args.now c.loop-arg.arg-index _ c.loop-arg-test.true c.arg-item.is) (c.in-Ok-true.is ∙ ap (λ b. Ok b) c.in-Ok-true.field-0-test)
    (walked_as g.V.ExprVisitor.pre_gives (IdlesOr g.V.ExprVisitor.post_gives) _ c.arg-item.result.value _ _ _ c.deref.ensures c.walk_expr.ensures) more)

pub walk_args-returns-in-Ok-false : goal.walk_args-returns-in-Ok-false
walk_args-returns-in-Ok-false g t c =
    c.loop-arg.invariant _ _ (next_ends g.V.ExprVisitor.pre_gives (IdlesOr g.V.ExprVisitor.post_gives) (λ b. tree_of b.value) args_events (λ b bs. refl) _ c.arg-item.result _ _ _ _ _
    (drop_step c.args.args.now c.loop-arg.arg-index _ c.loop-arg-test.true c.arg-item.is) tt (c.in-Ok-false.is ∙ ap (λ b. Ok b) c.in-Ok-false.field-0-test)
    (walked_as g.V.ExprVisitor.pre_gives (IdlesOr g.V.ExprVisitor.post_gives) _ c.arg-item.result.value _ _ _ c.deref.ensures c.walk_expr.ensures))

pub walk_args-returns-in-Err : goal.walk_args-returns-in-Err
walk_args-returns-in-Err g t c =
    c.loop-arg.invariant _ _ (next_ends g.V.ExprVisitor.pre_gives (IdlesOr g.V.ExprVisitor.post_gives) (λ b. tree_of b.value) args_events (λ b bs. refl) _ c.arg-item.result _ _ _ _ _
    (drop_step c.args.args.now c.loop-arg.arg-index _ c.loop-arg-test.true c.arg-item.is) tt c.in-Err.is
    (walked_as g.V.ExprVisitor.pre_gives (IdlesOr g.V.ExprVisitor.post_gives) _ c.arg-item.result.value _ _ _ c.deref.ensures c.walk_expr.ensures))

pub walk_nodes-returns : goal.walk_nodes-returns
walk_nodes-returns g t c =
    c.loop-node.invariant _ _ (subst (λ es. WalksAlong (Visit g.V.ExprVisitor.pre_gives (IdlesOr g.V.ExprVisitor.post_gives)) (all_events (children_of es)) c.loop-node.visitor (Ok true) c.loop-node.visitor) (sym (drop_all c.loop-node.node-index c.args.nodes.now c.loop-node-test.false)) (refl, refl))

pub walk_nodes-loop-node-preserved : goal.walk_nodes-loop-node-preserved
walk_nodes-loop-node-preserved g t c =
    λ r u more. c.loop-node.invariant r u (next_goes g.V.ExprVisitor.pre_gives (IdlesOr g.V.ExprVisitor.post_gives) tree_of nodes_events (λ e es. refl) _ c.node-item.result _ _ _ _ _ _
    (drop_step c.args.nodes.now c.loop-node.node-index _ c.loop-node-test.true c.node-item.is) (c.in-Ok-true.is ∙ ap (λ b. Ok b) c.in-Ok-true.field-0-test) c.walk_expr.ensures more)

pub walk_nodes-returns-in-Ok-false : goal.walk_nodes-returns-in-Ok-false
walk_nodes-returns-in-Ok-false g t c =
    c.loop-node.invariant _ _ (next_ends g.V.ExprVisitor.pre_gives (IdlesOr g.V.ExprVisitor.post_gives) tree_of nodes_events (λ e es. refl) _ c.node-item.result _ _ _ _ _
    (drop_step c.args.nodes.now c.loop-node.node-index _ c.loop-node-test.true c.node-item.is) tt (c.in-Ok-false.is ∙ ap (λ b. Ok b) c.in-Ok-false.field-0-test) c.walk_expr.ensures)

pub walk_nodes-returns-in-Err : goal.walk_nodes-returns-in-Err
walk_nodes-returns-in-Err g t c =
    c.loop-node.invariant _ _ (next_ends g.V.ExprVisitor.pre_gives (IdlesOr g.V.ExprVisitor.post_gives) tree_of nodes_events (λ e es. refl) _ c.node-item.result _ _ _ _ _
    (drop_step c.args.nodes.now c.loop-node.node-index _ c.loop-node-test.true c.node-item.is) tt c.in-Err.is c.walk_expr.ensures)

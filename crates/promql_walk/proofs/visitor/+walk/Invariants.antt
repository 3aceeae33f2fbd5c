use Rattle.std.proofs.Common.{drop}
use Rattle.promql_ast.specs.View.{children_of, trees_of}
use Rattle.promql_json.specs.Events.{all_events}
use Rattle.promql_walk.specs.WalkSteps.{IdlesOr, Visit, WalksAlong}
use Rattle.promql_walk.proofs.visitor.+walk.Given as goal

-- whatever the walk of the rest gives, the walk of the whole list gives
abbrev pub invariant-walk_args-loop-arg : goal.invariant-walk_args-loop-arg
invariant-walk_args-loop-arg g l =
    (r : _) (t : _) → WalksAlong (Visit g.V.ExprVisitor.pre_gives (IdlesOr g.V.ExprVisitor.post_gives)) (all_events (trees_of (drop l.arg-index l.args))) l.visitor r t
    → WalksAlong (Visit g.V.ExprVisitor.pre_gives (IdlesOr g.V.ExprVisitor.post_gives)) (all_events (trees_of l.args)) l.initial.visitor r t

abbrev pub invariant-walk_nodes-loop-node : goal.invariant-walk_nodes-loop-node
invariant-walk_nodes-loop-node g l =
    (r : _) (t : _) → WalksAlong (Visit g.V.ExprVisitor.pre_gives (IdlesOr g.V.ExprVisitor.post_gives)) (all_events (children_of (drop l.node-index l.nodes))) l.visitor r t
    → WalksAlong (Visit g.V.ExprVisitor.pre_gives (IdlesOr g.V.ExprVisitor.post_gives)) (all_events (children_of l.nodes)) l.initial.visitor r t

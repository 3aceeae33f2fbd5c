use Rattle.std.proofs.Common.{[], ◌∷◌, Global, subst}
use Rattle.std.specs.Prelude.{if◌then◌else◌}
use Rattle.std.specs.declared.boxed.Box.{Box}
use Rattle.promql_kind.specs.Functions.{signature_of}
use Rattle.promql_ast.proofs.nodes.ChangedLists.{on_ok}
use Rattle.promql_ast.specs.View.{children_of, option_tree, tree_of, trees_of}
use Rattle.promql_ast.specs.declared.expr.Expr.{Expr}
use Rattle.promql_when.specs.Reads.{is_bare_info}
use Rattle.promql_query.specs.SelectorPlaces.{all_steps, bare_info, maybe_steps, other_node, steps}
use Rattle.promql_query.specs.WalkedPlaces.{Takes}
use Rattle.promql_query.proofs.SelectorWalks.{all_taken, both_taken, one_taken}
use Rattle.promql_query.proofs.selector_places.+selector_places.Goals as goal

pub walk_operand-returns : goal.walk_operand-returns
walk_operand-returns t c =
    let a = c.args.walk.now in let b = c.pass_node.new.self in let d = c.walk_expr.new.walk in
    on_ok c.walk_expr.result _ _ (λ taken. both_taken (other_node ∷ []) (steps (tree_of c.args.expr.now)) a b d c.pass_node.ensures taken) c.walk_expr.ensures

pub walk_aggregate-returns : goal.walk_aggregate-returns
walk_aggregate-returns t c =
    let node = c.args.node.now in
    let a = c.args.walk.now in let b = c.pass_node.new.self in let d = c.walk_param.new.walk in let e = c.walk_expr.new.walk in
    let first = both_taken (other_node ∷ []) (maybe_steps (option_tree node.param)) a b d c.pass_node.ensures c.in_ok-walk_param.ensures in
    on_ok c.walk_expr.result _ _
    (λ taken. both_taken (other_node ∷ maybe_steps (option_tree node.param)) (steps (tree_of node.expr.value)) a d e first
    (subst (λ x. Takes (steps (tree_of x)) d e) c.deref.ensures taken))
    c.walk_expr.ensures

pub walk_binary-returns : goal.walk_binary-returns
walk_binary-returns t c =
    let node = c.args.node.now in
    let a = c.args.walk.now in let b = c.pass_node.new.self in let d = c.walk_expr.new.walk in let e = c.walk_expr-2.new.walk in
    let first =
    both_taken (other_node ∷ []) (steps (tree_of node.lhs.value)) a b d c.pass_node.ensures
    (subst (λ x. Takes (steps (tree_of x)) b d) c.deref.ensures c.in_ok-walk_expr.ensures)
    in
    on_ok c.walk_expr-2.result _ _
    (λ taken. both_taken (other_node ∷ steps (tree_of node.lhs.value)) (steps (tree_of node.rhs.value)) a d e first
    (subst (λ x. Takes (steps (tree_of x)) d e) c.deref-2.ensures taken))
    c.walk_expr-2.ensures

pub walk_call-returns : goal.walk_call-returns
walk_call-returns t c =
    let node = c.args.node.now in let args = node.args.args.items in
    let a = c.args.walk.now in let b = c.pass_node.new.self in let d = c.walk_args.new.walk in let e = c.walk_bare_info.new.walk in
    let last = if is_bare_info (signature_of node.func) (trees_of args) then bare_info ∷ [] else [] in
    let first =
    both_taken (other_node ∷ []) (all_steps (trees_of args)) a b d c.pass_node.ensures
    (subst (λ bs. Takes (all_steps (trees_of bs)) b d) c.as_slice.ensures.value c.in_ok-walk_args.ensures)
    in
    on_ok c.walk_bare_info.result _ _ (λ taken. both_taken (other_node ∷ all_steps (trees_of args)) last a d e first taken) c.walk_bare_info.ensures

pub walk_args-loop-arg-preserved : goal.walk_args-loop-arg-preserved
walk_args-loop-arg-preserved t c =
    let now = c.loop-arg.walk in let next = c.walk_expr.new.walk in
    one_taken (λ (b : Box Expr Global). tree_of b.value) c.args.args.now c.loop-arg.arg-index c.args.walk.now now next c.arg-item.result c.loop-arg-test.true c.arg-item.is
    (subst (λ x. Takes (steps (tree_of x)) now next) c.deref.ensures c.in_ok-walk_expr.ensures) c.loop-arg.invariant

pub walk_args-returns : goal.walk_args-returns
walk_args-returns t c =
    all_taken (λ (b : Box Expr Global). tree_of b.value) c.args.args.now c.loop-arg.arg-index c.args.walk.now c.loop-arg.walk c.loop-arg-test.false c.loop-arg.invariant

pub walk_children-loop-child-preserved : goal.walk_children-loop-child-preserved
walk_children-loop-child-preserved t c =
    one_taken tree_of c.args.children.now c.loop-child.child-index c.pass_node.new.self c.loop-child.walk c.walk_expr.new.walk c.child-item.result c.loop-child-test.true c.child-item.is
    c.in_ok-walk_expr.ensures c.loop-child.invariant

pub walk_children-returns : goal.walk_children-returns
walk_children-returns t c =
    both_taken (other_node ∷ []) (all_steps (children_of c.args.children.now)) c.args.walk.now c.pass_node.new.self c.loop-child.walk c.pass_node.ensures
    (all_taken tree_of c.args.children.now c.loop-child.child-index c.pass_node.new.self c.loop-child.walk c.loop-child-test.false c.loop-child.invariant)

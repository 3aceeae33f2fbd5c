use Rattle.std.proofs.Common.{◌≡◌, ◌+◌, ◌++◌, ◌∷◌, [], length, true, false, nat_lt, ap, sym, ◌∙◌, append_assoc, codes, arith, Global}
use Rattle.std.specs.declared.boxed.Box.{Box}
use Rattle.std.proofs.lemmas.Grind.{common_steps}
use Rattle.promql_text.specs.PrintedLen.{cap_usize, printed_len}
use Rattle.promql_text.proofs.writing.PrintedLengths.{joined_len_next}
use Rattle.promql_ast.specs.Decisions.{can_split, decisions, node_decisions, operand_decisions}
use Rattle.promql_ast.specs.NodeView.{tree_of_node}
use Rattle.promql_ast.specs.Nodes.{nodes, all_nodes}
use Rattle.promql_ast.specs.Text.{text}
use Rattle.promql_ast.specs.Tree.{Tree}
use Rattle.promql_ast.specs.View.{children_of, tree_of, trees_of}
use Rattle.promql_ast.specs.declared.expr.Expr.{Expr}
use Rattle.promql_ast.proofs.nodes.ExpressionLists.{decisions_step, nodes_step, nodes_of_one, len_all}
use Rattle.promql_ast.proofs.layouts.LayoutsBy.{split_decisions}
use Rattle.promql_ast.proofs.layout.measurer.Measurer.+measure.Goals as goal

pub measure_args-measure-requires : goal.measure_args-measure-requires
measure_args-measure-requires t c =
    let f : Box Expr Global → Tree = λ x. tree_of x.value in
    let here : tree_of_node c.node.result ≡ f c.index-args-i.result = c.node.ensures ∙ ap tree_of c.deref.ensures in
    (omega (arith, c.decreases, ap nodes here, nodes_of_one f c.args.args.now c.loop-i.i c.index-args-i.result c.loop-i-test.true c.index-args-i.is), tt)

pub measure_args-loop-i-preserved : goal.measure_args-loop-i-preserved
measure_args-loop-i-preserved t c =
    let xs = c.args.args.now in
    let i = c.loop-i.i in
    let y = c.index-args-i.result in
    let h = c.loop-i-test.true in
    let e = c.index-args-i.is in
    let f : Box Expr Global → Tree = λ x. tree_of x.value in
    let here : tree_of_node c.node.result ≡ f y = c.node.ensures ∙ ap tree_of c.deref.ensures in
    record {
      len = joined_len_next (λ x. text (tree_of x.value)) (codes ", ") xs i y _ _ _ _ _ h e c.loop-i.invariant.len c.separator_printed_len.ensures c.saturating_add.ensures (c.in_ok-len.ensures.len ∙ ap (λ x. printed_len (text x)) here) c.saturating_add-total.ensures;
      decisions = decisions_step f xs i c.args.max y c.loop-i.self.decisions.items c.measure.new.self.decisions.items _ h e (c.in_ok-len.ensures.decisions ∙ ap (λ x. c.loop-i.self.decisions.items ++ decisions x c.args.max) here) c.loop-i.invariant.decisions;
      counted = nodes_step f xs i y c.loop-i.self.measured c.measure.new.self.measured (c.args.self.now.measured + all_nodes (trees_of xs)) h e (c.in_ok-len.ensures.counted ∙ ap (λ x. cap_usize (c.loop-i.self.measured + nodes x)) here) c.loop-i.invariant.counted;
    }

pub measure_args-returns-clause-len : goal.measure_args-returns-clause-len
measure_args-returns-clause-len t c = len_all (λ (x : Box Expr Global). tree_of x.value) c.args.args.now c.loop-i.i _ c.loop-i-test.false c.loop-i.invariant.len

pub measure_children-measure-requires : goal.measure_children-measure-requires
measure_children-measure-requires t c =
    (omega (arith, c.decreases, ap nodes c.node.ensures, nodes_of_one tree_of c.args.children.now c.loop-i.i c.index-children-i.result c.loop-i-test.true c.index-children-i.is), tt)

pub measure_children-loop-i-preserved : goal.measure_children-loop-i-preserved
measure_children-loop-i-preserved t c =
    let xs = c.args.children.now in
    let i = c.loop-i.i in
    let y = c.index-children-i.result in
    let h = c.loop-i-test.true in
    let e = c.index-children-i.is in
    let here : tree_of_node c.node.result ≡ tree_of y = c.node.ensures in
    record {
      len = joined_len_next (λ x. text (tree_of x)) (codes ", ") xs i y _ _ _ _ _ h e c.loop-i.invariant.len c.separator_printed_len.ensures c.saturating_add.ensures (c.in_ok-len.ensures.len ∙ ap (λ x. printed_len (text x)) here) c.saturating_add-total.ensures;
      decisions = decisions_step tree_of xs i c.args.max y c.loop-i.self.decisions.items c.measure.new.self.decisions.items _ h e (c.in_ok-len.ensures.decisions ∙ ap (λ x. c.loop-i.self.decisions.items ++ decisions x c.args.max) here) c.loop-i.invariant.decisions;
      counted = nodes_step tree_of xs i y c.loop-i.self.measured c.measure.new.self.measured (c.args.self.now.measured + all_nodes (children_of xs)) h e (c.in_ok-len.ensures.counted ∙ ap (λ x. cap_usize (c.loop-i.self.measured + nodes x)) here) c.loop-i.invariant.counted;
    }

pub measure_children-returns-clause-len : goal.measure_children-returns-clause-len
measure_children-returns-clause-len t c = len_all tree_of c.args.children.now c.loop-i.i _ c.loop-i-test.false c.loop-i.invariant.len

-- ---- a node's decision, before those of its operands

pub measure-returns-clause-decisions : goal.measure-returns-clause-decisions
measure-returns-clause-decisions t c =
    let tree = tree_of_node c.args.node in
    let before = c.args.self.now.decisions.items in
    let parts = operand_decisions tree c.args.max in
    let splits : can_split tree ≡ true = grind (arith, common_steps) in
    let index : c.len-index.result ≡ length before = grind (arith, common_steps) in
    let marked : c.measure_operands-2.new.self.decisions.items ≡ before ++ (false ∷ parts) =
    c.in_ok-len.ensures.decisions ∙ ap (λ ds. ds ++ parts) c.in_ok-push.ensures.items ∙ append_assoc before (false ∷ []) parts in
    c.decide.ensures before parts index marked
    ∙ ap (λ ds. before ++ ds) (ap (λ n. node_decisions (nat_lt c.args.max n) parts) c.in_ok-len.ensures.len ∙ sym (split_decisions tree c.args.max splits))

-- ---- a node's parts, one after the other

pub measure_operands-returns-in_ok-inner-in-Aggregate-clause-len : goal.measure_operands-returns-in_ok-inner-in-Aggregate-clause-len
measure_operands-returns-in_ok-inner-in-Aggregate-clause-len t c = grind (arith, common_steps)

pub measure_operands-returns-in_ok-inner-in-Aggregate-clause-decisions : goal.measure_operands-returns-in_ok-inner-in-Aggregate-clause-decisions
measure_operands-returns-in_ok-inner-in-Aggregate-clause-decisions t c = grind (arith, common_steps)

pub measure_operands-returns-in_ok-inner-in-Aggregate-clause-counted : goal.measure_operands-returns-in_ok-inner-in-Aggregate-clause-counted
measure_operands-returns-in_ok-inner-in-Aggregate-clause-counted t c = grind (arith, common_steps)

pub measure_operands-returns-in_ok-right-in-Binary-clause-len : goal.measure_operands-returns-in_ok-right-in-Binary-clause-len
measure_operands-returns-in_ok-right-in-Binary-clause-len t c = grind (arith, common_steps)

pub measure_operands-returns-in_ok-right-in-Binary-clause-decisions : goal.measure_operands-returns-in_ok-right-in-Binary-clause-decisions
measure_operands-returns-in_ok-right-in-Binary-clause-decisions t c = grind (arith, common_steps)

pub measure_operands-returns-in_ok-right-in-Binary-clause-counted : goal.measure_operands-returns-in_ok-right-in-Binary-clause-counted
measure_operands-returns-in_ok-right-in-Binary-clause-counted t c = grind (arith, common_steps)

pub measure_operands-returns-in_ok-args-in-Call-clause-len : goal.measure_operands-returns-in_ok-args-in-Call-clause-len
measure_operands-returns-in_ok-args-in-Call-clause-len t c = grind (arith, common_steps)

pub measure_operands-returns-in_ok-args-in-Call-clause-counted : goal.measure_operands-returns-in_ok-args-in-Call-clause-counted
measure_operands-returns-in_ok-args-in-Call-clause-counted t c = grind (arith, common_steps)

pub measure_operands-returns-in_ok-children-in-Extension-clause-len : goal.measure_operands-returns-in_ok-children-in-Extension-clause-len
measure_operands-returns-in_ok-children-in-Extension-clause-len t c = grind (arith, common_steps)

pub measure_operands-returns-in_ok-children-in-Extension-clause-counted : goal.measure_operands-returns-in_ok-children-in-Extension-clause-counted
measure_operands-returns-in_ok-children-in-Extension-clause-counted t c = grind (arith, common_steps)

pub measure_args-returns-clause-decisions : goal.measure_args-returns-clause-decisions
measure_args-returns-clause-decisions t c = grind (arith, common_steps)

pub measure_args-returns-clause-counted : goal.measure_args-returns-clause-counted
measure_args-returns-clause-counted t c = grind (arith, common_steps)

pub measure_children-returns-clause-decisions : goal.measure_children-returns-clause-decisions
measure_children-returns-clause-decisions t c = grind (arith, common_steps)

pub measure_children-returns-clause-counted : goal.measure_children-returns-clause-counted
measure_children-returns-clause-counted t c = grind (arith, common_steps)

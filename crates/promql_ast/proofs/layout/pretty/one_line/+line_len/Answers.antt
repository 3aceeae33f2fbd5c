use Rattle.std.proofs.Common.{◌≡◌, ap, ◌∙◌, codes, arith, Global}
use Rattle.std.specs.declared.boxed.Box.{Box}
use Rattle.promql_text.specs.PrintedLen.{printed_len}
use Rattle.promql_text.proofs.writing.PrintedLengths.{joined_len_next}
use Rattle.promql_ast.specs.NodeView.{tree_of_node}
use Rattle.promql_ast.specs.Nodes.{nodes}
use Rattle.promql_ast.specs.Text.{text}
use Rattle.promql_ast.specs.Tree.{Tree}
use Rattle.promql_ast.specs.View.{tree_of}
use Rattle.promql_ast.specs.declared.expr.Expr.{Expr}
use Rattle.promql_ast.proofs.nodes.ExpressionLists.{nodes_of_one, len_all}
use Rattle.promql_ast.proofs.layout.pretty.one_line.+line_len.Goals as goal

pub args_len-line_len-requires : goal.args_len-line_len-requires
args_len-line_len-requires t c =
    let f : Box Expr Global → Tree = λ x. tree_of x.value in
    let here : tree_of_node c.node.result ≡ f c.index-args-i.result = c.node.ensures ∙ ap tree_of c.deref.ensures in
    (omega (arith, c.decreases, ap nodes here, nodes_of_one f c.args.args.now c.loop-i.i c.index-args-i.result c.loop-i-test.true c.index-args-i.is), tt)

pub args_len-loop-i-preserved : goal.args_len-loop-i-preserved
args_len-loop-i-preserved t c =
    joined_len_next (λ b. text (tree_of b.value)) (codes ", ") c.args.args.now c.loop-i.i c.index-args-i.result _ _ _ _ _ c.loop-i-test.true c.index-args-i.is
    c.loop-i.invariant c.separator_printed_len.ensures c.saturating_add.ensures (c.line_len.ensures ∙ ap (λ x. printed_len (text x)) (c.node.ensures ∙ ap tree_of c.deref.ensures)) c.saturating_add-total.ensures

pub args_len-returns : goal.args_len-returns
args_len-returns t c = len_all (λ b. tree_of b.value) c.args.args.now c.loop-i.i _ c.loop-i-test.false c.loop-i.invariant

pub children_len-line_len-requires : goal.children_len-line_len-requires
children_len-line_len-requires t c =
    (omega (arith, c.decreases, ap nodes c.node.ensures, nodes_of_one tree_of c.args.children.now c.loop-i.i c.index-children-i.result c.loop-i-test.true c.index-children-i.is), tt)

pub children_len-loop-i-preserved : goal.children_len-loop-i-preserved
children_len-loop-i-preserved t c =
    joined_len_next (λ e. text (tree_of e)) (codes ", ") c.args.children.now c.loop-i.i c.index-children-i.result _ _ _ _ _ c.loop-i-test.true c.index-children-i.is
    c.loop-i.invariant c.separator_printed_len.ensures c.saturating_add.ensures (c.line_len.ensures ∙ ap (λ x. printed_len (text x)) c.node.ensures) c.saturating_add-total.ensures

pub children_len-returns : goal.children_len-returns
children_len-returns t c = len_all tree_of c.args.children.now c.loop-i.i _ c.loop-i-test.false c.loop-i.invariant

use Rattle.std.proofs.Common.{◌≡◌, ◌+◌, ◌*◌, take, codes}
use Rattle.std.specs.List.{join_by}
use Rattle.promql_text.specs.PrintedLen.{printed_len}
use Rattle.promql_ast.specs.NodeView.{tree_of_node}
use Rattle.promql_ast.specs.Nodes.{nodes, maybe_nodes, all_nodes}
use Rattle.promql_ast.specs.Text.{text}
use Rattle.promql_ast.specs.View.{children_of, option_tree, tree_of, trees_of}
use Rattle.promql_ast.proofs.layout.pretty.one_line.+line_len.Given as goal

abbrev pub decreases-line_len : goal.decreases-line_len
decreases-line_len a = 2 * nodes (tree_of_node a.node)

abbrev pub decreases-maybe_len : goal.decreases-maybe_len
decreases-maybe_len a = 2 * maybe_nodes (option_tree a.param.now) + 1

abbrev pub decreases-args_len : goal.decreases-args_len
decreases-args_len a = 2 * all_nodes (trees_of a.args.now) + 1

abbrev pub decreases-children_len : goal.decreases-children_len
decreases-children_len a = 2 * all_nodes (children_of a.children.now) + 1

abbrev pub invariant-args_len-loop-i : goal.invariant-args_len-loop-i
invariant-args_len-loop-i l = l.total ≡ printed_len (join_by (λ b. text (tree_of b.value)) (codes ", ") (take l.i l.args))

abbrev pub invariant-children_len-loop-i : goal.invariant-children_len-loop-i
invariant-children_len-loop-i l = l.total ≡ printed_len (join_by (λ e. text (tree_of e)) (codes ", ") (take l.i l.children))

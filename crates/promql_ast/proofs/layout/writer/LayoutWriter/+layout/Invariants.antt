use Rattle.std.proofs.Common.{◌≡◌, ◌++◌, ◌+◌, ◌*◌, ◌≤◌, max, drop, codes, string_bytes}
use Rattle.std.specs.Slice.Iter.{iter_rest}
use Rattle.promql_text.specs.Texts.{joined_text}
use Rattle.promql_text.specs.PrintedLen.{usize_max}
use Rattle.promql_ast.specs.Decisions.{all_rest, layouts_by, all_deepest_by}
use Rattle.promql_ast.specs.NodeView.{tree_of_node}
use Rattle.promql_ast.specs.Nodes.{nodes, maybe_nodes, all_nodes}
use Rattle.promql_ast.specs.View.{option_tree, trees_of}
use Rattle.promql_ast.proofs.nodes.ExpressionLists.{row_from}
use Rattle.promql_ast.proofs.layout.writer.LayoutWriter.+layout.Given as goal

abbrev pub decreases-write_layout : goal.decreases-write_layout
decreases-write_layout a = 3 * nodes (tree_of_node a.node) + 1

abbrev pub decreases-write_lines : goal.decreases-write_lines
decreases-write_lines a = 3 * nodes (tree_of_node a.node)

abbrev pub decreases-write_param : goal.decreases-write_param
decreases-write_param a = 3 * maybe_nodes (option_tree a.param.now) + 2

abbrev pub decreases-write_args : goal.decreases-write_args
decreases-write_args a = 3 * all_nodes (trees_of a.args.now) + 2

abbrev pub invariant-write_args-loop-i : goal.invariant-write_args-loop-i
invariant-write_args-loop-i l = record {
  text : string_bytes l.self.out ++ row_from (codes ",\n") l.i (layouts_by (trees_of (drop l.i l.args)) l.level (iter_rest l.self.decisions)) ≡ string_bytes l.initial.self.out ++ joined_text (codes ",\n") (layouts_by (trees_of l.args) l.level (iter_rest l.initial.self.decisions));
  rest : all_rest (trees_of (drop l.i l.args)) (iter_rest l.self.decisions) ≡ all_rest (trees_of l.args) (iter_rest l.initial.self.decisions);
  wide : all_deepest_by (trees_of (drop l.i l.args)) l.level (iter_rest l.self.decisions) ≤ all_deepest_by (trees_of l.args) l.level (iter_rest l.initial.self.decisions);
  fits : 2 * all_deepest_by (trees_of l.args) l.level (iter_rest l.initial.self.decisions) ≤ max usize_max (2 * all_deepest_by (trees_of (drop l.i l.args)) l.level (iter_rest l.self.decisions));
}

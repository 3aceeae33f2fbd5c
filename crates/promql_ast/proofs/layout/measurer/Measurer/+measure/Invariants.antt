use Rattle.std.proofs.Common.{◌≡◌, ◌++◌, ◌+◌, ◌*◌, take, drop, map, codes}
use Rattle.std.specs.List.{join_by}
use Rattle.promql_text.specs.PrintedLen.{cap_usize, printed_len}
use Rattle.promql_ast.specs.Decisions.{all_decisions}
use Rattle.promql_ast.specs.NodeView.{tree_of_node}
use Rattle.promql_ast.specs.Nodes.{nodes, maybe_nodes, all_nodes}
use Rattle.promql_ast.specs.Text.{text}
use Rattle.promql_ast.specs.View.{children_of, option_tree, tree_of, trees, trees_of}
use Rattle.promql_ast.proofs.layout.measurer.Measurer.+measure.Given as goal

abbrev pub decreases-measure : goal.decreases-measure
decreases-measure a = 3 * nodes (tree_of_node a.node) + 1

abbrev pub decreases-measure_operands : goal.decreases-measure_operands
decreases-measure_operands a = 3 * nodes (tree_of_node a.node)

abbrev pub decreases-measure_param : goal.decreases-measure_param
decreases-measure_param a = 3 * maybe_nodes (option_tree a.param.now) + 2

abbrev pub decreases-measure_args : goal.decreases-measure_args
decreases-measure_args a = 3 * all_nodes (trees_of a.args.now) + 2

abbrev pub decreases-measure_children : goal.decreases-measure_children
decreases-measure_children a = 3 * all_nodes (children_of a.children.now) + 2

abbrev pub invariant-measure_args-loop-i : goal.invariant-measure_args-loop-i
invariant-measure_args-loop-i l = record {
  len : l.total ≡ printed_len (join_by (λ x. text (tree_of x.value)) (codes ", ") (take l.i l.args));
  decisions : l.self.decisions.items ++ all_decisions (trees (map (λ x. tree_of x.value) (drop l.i l.args))) l.max ≡ l.initial.self.decisions.items ++ all_decisions (trees_of l.args) l.max;
  counted : cap_usize (l.self.measured + all_nodes (trees (map (λ x. tree_of x.value) (drop l.i l.args)))) ≡ cap_usize (l.initial.self.measured + all_nodes (trees_of l.args));
}

abbrev pub invariant-measure_children-loop-i : goal.invariant-measure_children-loop-i
invariant-measure_children-loop-i l = record {
  len : l.total ≡ printed_len (join_by (λ x. text (tree_of x)) (codes ", ") (take l.i l.children));
  decisions : l.self.decisions.items ++ all_decisions (trees (map (λ x. tree_of x) (drop l.i l.children))) l.max ≡ l.initial.self.decisions.items ++ all_decisions (children_of l.children) l.max;
  counted : cap_usize (l.self.measured + all_nodes (trees (map (λ x. tree_of x) (drop l.i l.children)))) ≡ cap_usize (l.initial.self.measured + all_nodes (children_of l.children));
}

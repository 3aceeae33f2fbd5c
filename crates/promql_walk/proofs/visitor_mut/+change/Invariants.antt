use Rattle.std.proofs.Common.{◌≡◌, ◌+◌, ◌*◌, drop, take, map}
use Rattle.promql_ast.specs.Height.{height, greatest_height}
use Rattle.promql_ast.specs.Tree.{Trees}
use Rattle.promql_ast.specs.View.{aggregate_tree, binary_tree, call_tree, extension_tree, children_of, tree_of, trees_of}
use Rattle.promql_walk.specs.Changes.{ChangesEach, EditsOr}
use Rattle.promql_walk.proofs.Changed.{onto}
use Rattle.promql_walk.proofs.visitor_mut.+change.Given as goal

abbrev pub decreases-walk_expr_mut : goal.decreases-walk_expr_mut
decreases-walk_expr_mut g l = 4 * height (tree_of l.expr.now) + 3

abbrev pub decreases-walk_children_mut : goal.decreases-walk_children_mut
decreases-walk_children_mut g l = 4 * height (tree_of l.expr.now) + 2

abbrev pub decreases-walk_aggregate_mut : goal.decreases-walk_aggregate_mut
decreases-walk_aggregate_mut g l = 4 * height (aggregate_tree l.node.now) + 1

abbrev pub decreases-walk_binary_mut : goal.decreases-walk_binary_mut
decreases-walk_binary_mut g l = 4 * height (binary_tree l.node.now) + 1

abbrev pub decreases-walk_call_mut : goal.decreases-walk_call_mut
decreases-walk_call_mut g l = 4 * height (call_tree l.node.now) + 1

abbrev pub decreases-walk_extension_mut : goal.decreases-walk_extension_mut
decreases-walk_extension_mut g l = 4 * height (extension_tree l.node.now) + 1

abbrev pub decreases-walk_args_mut : goal.decreases-walk_args_mut
decreases-walk_args_mut g l = 4 * greatest_height (trees_of l.args.now) + 4

abbrev pub decreases-walk_nodes_mut : goal.decreases-walk_nodes_mut
decreases-walk_nodes_mut g l = 4 * greatest_height (children_of l.nodes.now) + 4

-- whatever the walk of the rest gives, the walk of the whole list gives after what it gave so far
abbrev pub invariant-walk_args_mut-loop-i : goal.invariant-walk_args_mut-loop-i
invariant-walk_args_mut-loop-i g l = record {
  walked : (r : _) (t : _) (ys : Trees) → ChangesEach g.V.ExprVisitorMut.pre_gives (EditsOr g.V.ExprVisitorMut.post_gives) l.visitor (trees_of (drop l.i l.args)) r t ys
      → ChangesEach g.V.ExprVisitorMut.pre_gives (EditsOr g.V.ExprVisitorMut.post_gives) l.initial.visitor (trees_of l.initial.args) r t (onto (map (λ b. tree_of b.value) (take l.i l.args)) ys);
  rest : drop l.i l.args ≡ drop l.i l.initial.args;
}

abbrev pub invariant-walk_nodes_mut-loop-i : goal.invariant-walk_nodes_mut-loop-i
invariant-walk_nodes_mut-loop-i g l = record {
  walked : (r : _) (t : _) (ys : Trees) → ChangesEach g.V.ExprVisitorMut.pre_gives (EditsOr g.V.ExprVisitorMut.post_gives) l.visitor (children_of (drop l.i l.nodes)) r t ys
      → ChangesEach g.V.ExprVisitorMut.pre_gives (EditsOr g.V.ExprVisitorMut.post_gives) l.initial.visitor (children_of l.initial.nodes) r t (onto (map tree_of (take l.i l.nodes)) ys);
  rest : drop l.i l.nodes ≡ drop l.i l.initial.nodes;
}

use Rattle.std.proofs.Common.{◌≡◌, map, take}
use Rattle.promql_ast.specs.View.{tree_of}
use Rattle.promql_rewrite.specs.Parenthesizing.{parenthesized}
use Rattle.promql_rewrite.proofs.parenthesizing.+parenthesize.Given as goal

abbrev pub invariant-parenthesize_args-loop-i : goal.invariant-parenthesize_args-loop-i
invariant-parenthesize_args-loop-i l = record {
  unvisited : goal.unvisited-parenthesize_args-loop-i l;
  done : map (λ b. tree_of b.value) (take l.i l.args) ≡ map (λ b. parenthesized (tree_of b.value)) (take l.i l.fn.args);
}

abbrev pub invariant-parenthesize_children-loop-i : goal.invariant-parenthesize_children-loop-i
invariant-parenthesize_children-loop-i l = record {
  unvisited : goal.unvisited-parenthesize_children-loop-i l;
  done : map tree_of (take l.i l.children) ≡ map (λ e. parenthesized (tree_of e)) (take l.i l.fn.children);
}

use Rattle.std.proofs.Common.{◌≡◌, map, take}
use Rattle.promql_ast.specs.Normal.{normal}
use Rattle.promql_ast.specs.View.{tree_of}
use Rattle.promql_ast.proofs.+normal.Given as goal

abbrev pub invariant-normal::normalize_args-loop-i : goal.invariant-normal::normalize_args-loop-i
invariant-normal::normalize_args-loop-i l = record {
  unvisited : goal.unvisited-normal::normalize_args-loop-i l;
  done : map (λ b. tree_of b.value) (take l.i l.args) ≡ map (λ b. normal (tree_of b.value)) (take l.i l.fn.args);
}

abbrev pub invariant-normal::normalize_children-loop-i : goal.invariant-normal::normalize_children-loop-i
invariant-normal::normalize_children-loop-i l = record {
  unvisited : goal.unvisited-normal::normalize_children-loop-i l;
  done : map tree_of (take l.i l.children) ≡ map (λ e. normal (tree_of e)) (take l.i l.fn.children);
}

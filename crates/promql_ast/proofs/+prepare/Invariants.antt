use Rattle.std.proofs.Common.{◌≡◌, map}
use Rattle.promql_ast.specs.View.{tree_of}
use Rattle.promql_ast.proofs.+prepare.Given as goal

abbrev pub invariant-prepare::prepare_args-loop-i : goal.invariant-prepare::prepare_args-loop-i
invariant-prepare::prepare_args-loop-i l = record {
  unvisited : goal.unvisited-prepare::prepare_args-loop-i l;
  same : map (λ b. tree_of b.value) l.args ≡ map (λ b. tree_of b.value) l.fn.args;
}

abbrev pub invariant-prepare::prepare_children-loop-i : goal.invariant-prepare::prepare_children-loop-i
invariant-prepare::prepare_children-loop-i l = record {
  unvisited : goal.unvisited-prepare::prepare_children-loop-i l;
  same : map tree_of l.children ≡ map tree_of l.fn.children;
}

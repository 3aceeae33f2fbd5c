use Rattle.std.proofs.Common.{◌≡◌, map, take}
use Rattle.promql_ast.specs.View.{tree_of}
use Rattle.promql_when.specs.Pinned.{pinned}
use Rattle.promql_when.proofs.pinning.+pin.Given as goal

abbrev pub invariant-pin_args-loop-i : goal.invariant-pin_args-loop-i
invariant-pin_args-loop-i l = record {
  unvisited : goal.unvisited-pin_args-loop-i l;
  done : map (λ b. tree_of b.value) (take l.i l.args) ≡ map (λ b. pinned l.ends.start l.ends.end (tree_of b.value)) (take l.i l.fn.args);
}

abbrev pub invariant-pin_children-loop-i : goal.invariant-pin_children-loop-i
invariant-pin_children-loop-i l = record {
  unvisited : goal.unvisited-pin_children-loop-i l;
  done : map tree_of (take l.i l.children) ≡ map (λ e. pinned l.ends.start l.ends.end (tree_of e)) (take l.i l.fn.children);
}

use Rattle.std.proofs.Common.{◌≡◌, map, take}
use Rattle.promql_ast.specs.Mapped.{mapped}
use Rattle.promql_ast.specs.View.{tree_of}
use Rattle.promql_rewrite.proofs.changing.+change.Given as goal

abbrev pub invariant-change_args-loop-i : goal.invariant-change_args-loop-i
invariant-change_args-loop-i g l = record {
  unvisited : goal.unvisited-change_args-loop-i g l;
  done : map (λ b. tree_of b.value) (take l.i l.args) ≡ map (λ b. mapped (g.C.PartChange.selectors l.change) (g.C.PartChange.clauses l.change) (g.C.PartChange.matchings l.change) (tree_of b.value)) (take l.i l.fn.args);
}

abbrev pub invariant-change_children-loop-i : goal.invariant-change_children-loop-i
invariant-change_children-loop-i g l = record {
  unvisited : goal.unvisited-change_children-loop-i g l;
  done : map tree_of (take l.i l.children) ≡ map (λ e. mapped (g.C.PartChange.selectors l.change) (g.C.PartChange.clauses l.change) (g.C.PartChange.matchings l.change) (tree_of e)) (take l.i l.fn.children);
}

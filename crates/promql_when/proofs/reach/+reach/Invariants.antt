use Rattle.std.proofs.Common.{◌≡◌, ◌++◌, drop}
use Rattle.promql_ast.specs.View.{children_of, trees_of}
use Rattle.promql_when.specs.Reached.{all_reach, any_reach_overflow}
use Rattle.promql_when.specs.ReachFound.{reaches_of}
use Rattle.promql_when.proofs.reach.+reach.Given as goal

abbrev pub invariant-reach_args-loop-arg : goal.invariant-reach_args-loop-arg
invariant-reach_args-loop-arg l = record {
  listed : reaches_of l.found.items ++ all_reach l.times (trees_of (drop l.arg-index l.args)) l.from
      ≡ reaches_of l.initial.found.items ++ all_reach l.times (trees_of l.args) l.from;
  fitting : any_reach_overflow l.times (trees_of (drop l.arg-index l.args)) l.from ≡ any_reach_overflow l.times (trees_of l.args) l.from;
}

abbrev pub invariant-reach_children-loop-child : goal.invariant-reach_children-loop-child
invariant-reach_children-loop-child l = record {
  listed : reaches_of l.found.items ++ all_reach l.times (children_of (drop l.child-index l.children)) l.from
      ≡ reaches_of l.initial.found.items ++ all_reach l.times (children_of l.children) l.from;
  fitting : any_reach_overflow l.times (children_of (drop l.child-index l.children)) l.from ≡ any_reach_overflow l.times (children_of l.children) l.from;
}

use Rattle.std.proofs.Common.{◌≡◌, ◌++◌, drop}
use Rattle.promql_ast.specs.View.{children_of, trees_of}
use Rattle.promql_when.specs.Reads.{all_windows, any_overflow}
use Rattle.promql_when.specs.Found.{found_of}
use Rattle.promql_when.proofs.reading.+windows.Given as goal

abbrev pub invariant-push_args-loop-arg : goal.invariant-push_args-loop-arg
invariant-push_args-loop-arg l = record {
  listed : found_of l.found.items ++ all_windows l.times (trees_of (drop l.arg-index l.args)) l.window
      ≡ found_of l.initial.found.items ++ all_windows l.times (trees_of l.args) l.window;
  fitting : any_overflow l.times (trees_of (drop l.arg-index l.args)) l.window ≡ any_overflow l.times (trees_of l.args) l.window;
}

abbrev pub invariant-push_children-loop-child : goal.invariant-push_children-loop-child
invariant-push_children-loop-child l = record {
  listed : found_of l.found.items ++ all_windows l.times (children_of (drop l.child-index l.children)) l.window
      ≡ found_of l.initial.found.items ++ all_windows l.times (children_of l.children) l.window;
  fitting : any_overflow l.times (children_of (drop l.child-index l.children)) l.window ≡ any_overflow l.times (children_of l.children) l.window;
}

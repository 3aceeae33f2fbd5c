use Rattle.std.proofs.Common.{◌≡◌, ◌++◌, drop, map}
use Rattle.serde_json.specs.View.{view}
use Rattle.promql_ast.specs.View.{trees_of}
use Rattle.promql_json.specs.JsonFaults.{args_fault}
use Rattle.promql_places.specs.PlacedForms.{placed_args}
use Rattle.promql_places.specs.PlacedFormSteps.{args_count, left}
use Rattle.promql_places.proofs.placed_form.+placed_form.Given as goal

-- what is there, with what the rest gives, is all
abbrev pub invariant-args_value-loop-arg : goal.invariant-args_value-loop-arg
invariant-args_value-loop-arg l = record {
  values : map view l.list.items ++ placed_args (trees_of (drop l.arg-index l.args)) (left l.nodes)
      ≡ placed_args (trees_of l.args) (left l.initial.nodes);
  rest : drop (args_count (trees_of (drop l.arg-index l.args))) (left l.nodes)
      ≡ drop (args_count (trees_of l.args)) (left l.initial.nodes);
  faults : args_fault (trees_of (drop l.arg-index l.args)) ≡ args_fault (trees_of l.args);
}

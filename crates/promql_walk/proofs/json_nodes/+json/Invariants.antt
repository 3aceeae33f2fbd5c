use Rattle.std.proofs.Common.{◌≡◌, map, take, drop}
use Rattle.serde_json.specs.View.{view}
use Rattle.promql_ast.specs.View.{tree_of, trees_of}
use Rattle.promql_json.specs.Json.{json_value}
use Rattle.promql_json.specs.JsonFaults.{args_fault}
use Rattle.promql_walk.proofs.json_nodes.+json.Given as goal

abbrev pub invariant-args_json-loop-arg : goal.invariant-args_json-loop-arg
invariant-args_json-loop-arg l = record {
  values : map view l.list.items ≡ map (λ b. json_value (tree_of b.value)) (take l.arg-index l.args);
  faults : args_fault (trees_of (drop l.arg-index l.args)) ≡ args_fault (trees_of l.args);
}

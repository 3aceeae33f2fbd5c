use Rattle.std.proofs.Common.{◌≡◌, map, take}
use Rattle.serde_json.specs.View.{view}
use Rattle.promql_json.specs.FormNames.{type_json}
use Rattle.promql_walk.proofs.json_parts.types_json.Given as goal

abbrev pub invariant-loop-value_type : goal.invariant-loop-value_type
invariant-loop-value_type l = map view l.list.items ≡ map type_json (take l.value_type-index l.types)

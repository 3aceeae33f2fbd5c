use Rattle.std.proofs.Common.{◌≡◌, map, take, string_bytes}
use Rattle.serde_json.specs.Data.{string}
use Rattle.serde_json.specs.View.{view}
use Rattle.promql_walk.proofs.json_parts.labels_json.Given as goal

abbrev pub invariant-loop-label : goal.invariant-loop-label
invariant-loop-label l = map view l.list.items ≡ map string (map string_bytes (take l.label-index l.label-items))

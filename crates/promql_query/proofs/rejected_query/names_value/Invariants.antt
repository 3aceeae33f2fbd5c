use Rattle.std.proofs.Common.{◌≡◌, map, take}
use Rattle.serde_json.specs.Data.{string}
use Rattle.serde_json.specs.View.{view}
use Rattle.promql_query.proofs.rejected_query.names_value.Given as goal

abbrev pub invariant-loop-name : goal.invariant-loop-name
invariant-loop-name l = map view l.list.items ≡ map string (map (λ name. name.now) (take l.name-index l.names))

use Rattle.std.proofs.Common.{◌≡◌, ◌++◌, drop, map, string_bytes}
use Rattle.serde_json.specs.Data.{string}
use Rattle.promql_json.specs.JsonTokens.{rest_of_list}
use Rattle.promql_json.proofs.parts.write_labels.Given as goal

abbrev pub invariant-loop-label : goal.invariant-loop-label
invariant-loop-label l =
    l.out ++ rest_of_list (map string (map string_bytes (drop l.label-index l.label-items)))
    ≡ l.initial.out ++ rest_of_list (map string (map string_bytes l.label-items))

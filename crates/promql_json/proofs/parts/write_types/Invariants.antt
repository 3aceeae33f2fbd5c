use Rattle.std.proofs.Common.{◌≡◌, ◌++◌, drop, map}
use Rattle.promql_json.specs.FormNames.{type_json}
use Rattle.promql_json.specs.JsonTokens.{rest_of_list}
use Rattle.promql_json.proofs.parts.write_types.Given as goal

abbrev pub invariant-loop-value_type : goal.invariant-loop-value_type
invariant-loop-value_type l =
    l.out ++ rest_of_list (map type_json (drop l.value_type-index l.types)) ≡ l.initial.out ++ rest_of_list (map type_json l.types)

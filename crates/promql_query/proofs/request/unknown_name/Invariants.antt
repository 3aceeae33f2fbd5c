use Rattle.std.proofs.Common.{◌≡◌, string_bytes, map}
use Rattle.std.specs.BTreeMap.{keys}
use Rattle.promql_query.specs.BatchSteps.{first_unknown}
use Rattle.promql_query.proofs.request.unknown_name.Given as goal

-- what is found is among the keys that are left
abbrev pub invariant-loop-key : goal.invariant-loop-key
invariant-loop-key l = first_unknown l.names (map string_bytes l.key-iterator) ≡ first_unknown l.names (map string_bytes (keys l.members))

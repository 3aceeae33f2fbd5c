use Rattle.std.proofs.Common.{◌≡◌, map, take}
use Rattle.serde_json.specs.View.{view}
use Rattle.promql_json.specs.FormNames.{type_json}
use Rattle.promql_from_json.proofs.read_modifiers.expect_types.Given as goal

abbrev pub invariant-loop-i : goal.invariant-loop-i
invariant-loop-i l = map view (take l.i l.list.items) ≡ map type_json (take l.i l.types)

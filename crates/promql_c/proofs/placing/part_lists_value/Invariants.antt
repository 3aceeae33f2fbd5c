use Rattle.std.proofs.Common.{◌≡◌, map, take}
use Rattle.serde_json.specs.View.{view}
use Rattle.promql_c.specs.PartsText.{parts_value}
use Rattle.promql_c.proofs.placing.part_lists_value.Given as goal

abbrev pub invariant-loop-parts : goal.invariant-loop-parts
invariant-loop-parts l = map view l.list.items ≡ map parts_value (map (λ ps. ps.items) (take l.parts-index l.lists))

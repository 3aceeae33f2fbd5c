use Rattle.std.proofs.Common.{◌≡◌, take}
use Rattle.promql_places.specs.PlacedForms.{matcher_places}
use Rattle.promql_places.proofs.matcher_places.matcher_places.Given as goal

abbrev pub invariant-loop-part : goal.invariant-loop-part
invariant-loop-part l = l.places.items ≡ matcher_places (take l.part-index l.parts)

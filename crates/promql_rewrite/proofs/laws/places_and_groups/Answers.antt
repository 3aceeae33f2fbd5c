use Rattle.promql_rewrite.proofs.laws.places_and_groups.Goals as goal
use Rattle.promql_rewrite.proofs.readback.PlacesAndGroups.{groups_are, right_is}

pub returns : goal.returns
returns c = record { right_sides = right_is; groups = groups_are }

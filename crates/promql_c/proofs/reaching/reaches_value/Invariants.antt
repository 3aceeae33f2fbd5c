use Rattle.std.proofs.Common.{◌≡◌, map, take}
use Rattle.serde_json.specs.View.{view}
use Rattle.promql_when.specs.ReachFound.{reaches_of}
use Rattle.promql_c.specs.ReachesText.{reach_value}
use Rattle.promql_c.proofs.reaching.reaches_value.Given as goal

abbrev pub invariant-loop-selector : goal.invariant-loop-selector
invariant-loop-selector l = map view l.list.items ≡ map reach_value (reaches_of (take l.selector-index l.found))

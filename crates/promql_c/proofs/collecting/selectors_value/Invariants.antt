use Rattle.std.proofs.Common.{◌≡◌, map, take}
use Rattle.serde_json.specs.View.{view}
use Rattle.promql_rewrite.specs.Collecting.{selected_of}
use Rattle.promql_c.specs.CollectedJson.{selector_value}
use Rattle.promql_c.proofs.collecting.selectors_value.Given as goal

abbrev pub invariant-loop-selector : goal.invariant-loop-selector
invariant-loop-selector l = map view l.list.items ≡ map selector_value (map selected_of (take l.selector-index l.selectors))

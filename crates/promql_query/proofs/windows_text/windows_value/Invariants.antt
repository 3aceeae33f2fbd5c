use Rattle.std.proofs.Common.{◌≡◌, ◌++◌, drop, map}
use Rattle.serde_json.specs.View.{view}
use Rattle.promql_when.specs.Found.{found_of}
use Rattle.promql_query.specs.WindowsText.{window_values}
use Rattle.promql_query.proofs.windows_text.windows_value.Given as goal

-- what is left has the places that are left
abbrev pub invariant-loop-selector : goal.invariant-loop-selector
invariant-loop-selector l =
    map view l.list.items ++ window_values (found_of (drop l.selector-index l.found)) l.rest ≡ window_values (found_of l.found) l.places

use Rattle.std.proofs.Common.{◌≡◌, map, take}
use Rattle.serde_json.specs.View.{view}
use Rattle.promql_label.specs.MatcherViews.{plain_matcher_of}
use Rattle.promql_json.specs.JsonParts as spec
use Rattle.promql_from_json.proofs.read_labels.read_group_list.Given as goal

abbrev pub invariant-loop-i : goal.invariant-loop-i
invariant-loop-i l = map view (take l.i l.list) ≡ map spec.group_json (map (λ g. map plain_matcher_of g.items) l.groups.items)

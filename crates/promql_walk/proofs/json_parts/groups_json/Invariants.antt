use Rattle.std.proofs.Common.{◌≡◌, map, take}
use Rattle.serde_json.specs.View.{view}
use Rattle.promql_label.specs.MatcherViews.{plain_matcher_of}
use Rattle.promql_json.specs.JsonParts.{group_json}
use Rattle.promql_walk.proofs.json_parts.groups_json.Given as goal

abbrev pub invariant-loop-group : goal.invariant-loop-group
invariant-loop-group l = map view l.list.items ≡ map group_json (map (λ g. map plain_matcher_of g.items) (take l.group-index l.groups))

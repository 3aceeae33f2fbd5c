use Rattle.std.proofs.Common.{◌≡◌, ◌++◌, drop, map}
use Rattle.serde_json.specs.View.{view}
use Rattle.promql_label.specs.MatcherViews.{plain_matcher_of}
use Rattle.promql_places.specs.PlacedForms.{placed_groups}
use Rattle.promql_places.proofs.matcher_places.groups_value.Given as goal

-- what is there, with what the rest gives, is all
abbrev pub invariant-loop-group : goal.invariant-loop-group
invariant-loop-group l =
    map view l.list.items ++ placed_groups (map (λ g. map plain_matcher_of g.items) (drop l.group-index l.groups)) l.places.rest.now
    ≡ placed_groups (map (λ g. map plain_matcher_of g.items) l.groups) l.initial.places.rest.now

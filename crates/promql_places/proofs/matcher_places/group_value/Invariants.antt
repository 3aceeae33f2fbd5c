use Rattle.std.proofs.Common.{◌≡◌, ◌++◌, drop, map}
use Rattle.serde_json.specs.View.{view}
use Rattle.promql_label.specs.MatcherViews.{plain_matcher_of}
use Rattle.promql_places.specs.PlacedForms.{placed_matchers}
use Rattle.promql_places.proofs.matcher_places.group_value.Given as goal

-- what is there, with what the rest gives, is all
abbrev pub invariant-loop-matcher : goal.invariant-loop-matcher
invariant-loop-matcher l = record {
  values : map view l.list.items ++ placed_matchers (map plain_matcher_of (drop l.matcher-index l.matchers)) l.places.rest.now
      ≡ placed_matchers (map plain_matcher_of l.matchers) l.initial.places.rest.now;
  rest : l.places.rest.now ≡ drop l.matcher-index l.initial.places.rest.now;
}

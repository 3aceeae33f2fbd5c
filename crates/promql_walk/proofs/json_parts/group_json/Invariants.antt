use Rattle.std.proofs.Common.{◌≡◌, map, take}
use Rattle.serde_json.specs.View.{view}
use Rattle.promql_label.specs.MatcherViews.{plain_matcher_of}
use Rattle.promql_json.specs.JsonParts.{matcher_json}
use Rattle.promql_walk.proofs.json_parts.group_json.Given as goal

abbrev pub invariant-loop-matcher : goal.invariant-loop-matcher
invariant-loop-matcher l = map view l.list.items ≡ map matcher_json (map plain_matcher_of (take l.matcher-index l.matchers))

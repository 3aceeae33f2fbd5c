use Rattle.std.proofs.Common.{◌≡◌, ◌++◌, drop, map}
use Rattle.promql_label.specs.MatcherViews.{plain_matcher_of}
use Rattle.promql_json.specs.JsonParts.{matcher_json}
use Rattle.promql_json.specs.JsonTokens.{rest_of_list}
use Rattle.promql_json.proofs.parts.write_group.Given as goal

abbrev pub invariant-loop-matcher : goal.invariant-loop-matcher
invariant-loop-matcher l =
    l.out ++ rest_of_list (map matcher_json (map plain_matcher_of (drop l.matcher-index l.matchers)))
    ≡ l.initial.out ++ rest_of_list (map matcher_json (map plain_matcher_of l.matchers))

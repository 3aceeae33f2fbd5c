use Rattle.std.proofs.Common.{◌≡◌, ◌++◌, drop, map}
use Rattle.promql_label.specs.MatcherViews.{plain_matcher_of}
use Rattle.promql_json.specs.JsonParts.{group_json}
use Rattle.promql_json.specs.JsonTokens.{rest_of_list}
use Rattle.promql_json.proofs.parts.write_group_list.Given as goal

abbrev pub invariant-loop-group : goal.invariant-loop-group
invariant-loop-group l =
    l.out ++ rest_of_list (map group_json (map (λ g. map plain_matcher_of g.items) (drop l.group-index l.groups)))
    ≡ l.initial.out ++ rest_of_list (map group_json (map (λ g. map plain_matcher_of g.items) l.groups))

use Rattle.std.proofs.Common.{◌≡◌, map, take}
use Rattle.promql_label.specs.MatcherViews.{plain_matcher_of}
use Rattle.promql_label.proofs.matchers.Matchers.try_clone.Given as goal

abbrev pub invariant-loop-group : goal.invariant-loop-group
invariant-loop-group l =
    map (λ g. map plain_matcher_of g.items) l.or_matchers.items
    ≡ map (λ g. map plain_matcher_of g.items) (take l.group-index l.self.or_matchers.items)

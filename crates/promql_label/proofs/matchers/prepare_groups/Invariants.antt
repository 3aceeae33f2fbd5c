use Rattle.std.proofs.Common.{◌≡◌, map}
use Rattle.promql_label.specs.MatcherViews.{plain_matcher_of}
use Rattle.promql_label.proofs.matchers.prepare_groups.Given as goal

abbrev pub invariant-groups : goal.invariant-groups
invariant-groups l = map (λ g. map plain_matcher_of g.items) l.groups ≡ map (λ g. map plain_matcher_of g.items) l.fn.groups

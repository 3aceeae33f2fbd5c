use Rattle.std.proofs.Common.{◌≡◌, map}
use Rattle.promql_label.specs.MatcherViews.{plain_matcher_of}
use Rattle.promql_label.proofs.matchers.prepare_all.Given as goal

abbrev pub invariant-matchers : goal.invariant-matchers
invariant-matchers l = map plain_matcher_of l.matchers ≡ map plain_matcher_of l.fn.matchers

use Rattle.std.proofs.Common.{◌≡◌, length, map}
use Rattle.promql_label.specs.MatcherViews.{plain_matcher_of}
use Rattle.promql_rewrite.specs.Selecting.{allow_all}
use Rattle.promql_when.specs.MayRead.{series_of}
use Rattle.promql_when.proofs.series.allow_all.Given as goal

abbrev pub decreases-loop-rest : goal.decreases-loop-rest
decreases-loop-rest l = length l.rest

abbrev pub invariant-loop-rest : goal.invariant-loop-rest
invariant-loop-rest l = allow_all (map plain_matcher_of l.rest) (series_of l.series) ≡ allow_all (map plain_matcher_of l.matchers) (series_of l.series)

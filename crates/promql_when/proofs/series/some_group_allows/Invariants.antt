use Rattle.std.proofs.Common.{◌≡◌, length, map}
use Rattle.std.specs.List.{list_any}
use Rattle.promql_label.specs.MatcherViews.{plain_matcher_of}
use Rattle.promql_rewrite.specs.Selecting.{allow_all}
use Rattle.promql_when.specs.MayRead.{series_of}
use Rattle.promql_when.proofs.series.some_group_allows.Given as goal

abbrev pub decreases-loop-rest : goal.decreases-loop-rest
decreases-loop-rest l = length l.rest

abbrev pub invariant-loop-rest : goal.invariant-loop-rest
invariant-loop-rest l =
    list_any (λ g. allow_all g (series_of l.series)) (map (λ g. map plain_matcher_of g.items) l.rest)
    ≡ list_any (λ g. allow_all g (series_of l.series)) (map (λ g. map plain_matcher_of g.items) l.groups)

use Rattle.std.proofs.Common.{◌≡◌, false, [], map}
use Rattle.std.specs.List.{list_all}
use Rattle.promql_label.specs.PlainMatchers.{holds}
use Rattle.promql_label.specs.MatcherViews.{plain_matcher_of}
use Rattle.promql_label.proofs.label_lists.MatcherSearch.{rest_from}
use Rattle.promql_label.proofs.matchers.is_one_filled.Given as goal

abbrev pub invariant-loop-matcher : goal.invariant-loop-matcher
invariant-loop-matcher l =
    list_all (λ c. holds c []) (rest_from l.matchers l.matcher-index) ≡ false → list_all (λ c. holds c []) (map plain_matcher_of l.matchers) ≡ false

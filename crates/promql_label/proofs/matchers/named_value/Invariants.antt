use Rattle.std.proofs.Common.{◌≡◌, map, find}
use Rattle.promql_label.specs.PlainMatchers.{is_of}
use Rattle.promql_label.specs.MatcherViews.{plain_matcher_of}
use Rattle.promql_label.proofs.label_lists.MatcherSearch.{rest_from}
use Rattle.promql_label.proofs.matchers.named_value.Given as goal

abbrev pub invariant-loop-matcher : goal.invariant-loop-matcher
invariant-loop-matcher l =
    find (is_of l.name) (map plain_matcher_of l.matchers) ≡ find (is_of l.name) (rest_from l.matchers l.matcher-index)

use Rattle.std.proofs.Common.{◌≡◌, ◌++◌, map}
use Rattle.promql_label.specs.MatcherViews.{plain_matcher_of}
use Rattle.promql_label.proofs.label_lists.MatcherSearch.{rest_from}
use Rattle.promql_label.proofs.matchers.copy_matchers.Given as goal

abbrev pub invariant-loop-matcher : goal.invariant-loop-matcher
invariant-loop-matcher l = map plain_matcher_of l.matchers ≡ map plain_matcher_of l.copies.items ++ rest_from l.matchers l.matcher-index

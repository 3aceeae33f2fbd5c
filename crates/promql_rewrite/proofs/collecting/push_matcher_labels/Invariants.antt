use Rattle.std.proofs.Common.{◌≡◌, ◌++◌, filter, map, string_bytes}
use Rattle.promql_label.specs.MatcherViews.{plain_matcher_of}
use Rattle.promql_label.specs.PlainMatchers.{name_of}
use Rattle.promql_label.proofs.label_lists.MatcherSearch.{rest_from}
use Rattle.promql_rewrite.specs.Collecting.{is_label_matcher}
use Rattle.promql_rewrite.proofs.collecting.push_matcher_labels.Given as goal

abbrev pub invariant-loop-matcher : goal.invariant-loop-matcher
invariant-loop-matcher l =
    map string_bytes l.names.items ++ map name_of (filter is_label_matcher (rest_from l.matchers l.matcher-index))
    ≡ map string_bytes l.initial.names.items ++ map name_of (filter is_label_matcher (map plain_matcher_of l.matchers))

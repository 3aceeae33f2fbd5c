use Rattle.std.proofs.Common.{◌≡◌, find, option_map}
use Rattle.promql_label.specs.PlainMatchers.{found_value, is_of, value_of}
use Rattle.promql_label.specs.MatcherViews.{plain_matchers_of}
use Rattle.promql_label.proofs.label_lists.MatcherSearch.{held_from}
use Rattle.promql_label.proofs.matchers.Matchers.find_matcher_value.Given as goal

abbrev pub invariant-loop-group : goal.invariant-loop-group
invariant-loop-group l =
    found_value (plain_matchers_of l.self) l.name ≡ option_map value_of (find (is_of l.name) (held_from l.group-items l.group-index))

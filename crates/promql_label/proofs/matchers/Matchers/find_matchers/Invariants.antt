use Rattle.std.proofs.Common.{◌≡◌, ◌++◌, map, filter}
use Rattle.promql_label.specs.PlainMatchers.{find_plain, is_of}
use Rattle.promql_label.specs.MatcherViews.{plain_matcher_of, plain_matchers_of}
use Rattle.promql_label.proofs.label_lists.MatcherSearch.{held_from}
use Rattle.promql_label.proofs.matchers.Matchers.find_matchers.Given as goal

abbrev pub invariant-loop-group : goal.invariant-loop-group
invariant-loop-group l =
    find_plain (plain_matchers_of l.self) l.name
    ≡ map plain_matcher_of l.matchers.items ++ filter (is_of l.name) (held_from l.self.or_matchers.items l.group-index)

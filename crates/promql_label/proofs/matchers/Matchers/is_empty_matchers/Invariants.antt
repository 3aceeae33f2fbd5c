use Rattle.std.proofs.Common.{◌≡◌, []}
use Rattle.std.specs.List.{list_all}
use Rattle.promql_label.specs.PlainMatchers.{all_match_empty, holds}
use Rattle.promql_label.specs.MatcherViews.{plain_matchers_of}
use Rattle.promql_label.proofs.label_lists.MatcherSearch.{held_from}
use Rattle.promql_label.proofs.matchers.Matchers.is_empty_matchers.Given as goal

abbrev pub invariant-loop-group : goal.invariant-loop-group
invariant-loop-group l =
    all_match_empty (plain_matchers_of l.self) ≡ list_all (λ c. holds c []) (held_from l.self.or_matchers.items l.group-index)

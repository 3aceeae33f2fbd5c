use Rattle.std.proofs.Common.{◌≡◌, map, take}
use Rattle.std.specs.List.{sum_by}
use Rattle.promql_label.specs.MatcherViews.{plain_matcher_of}
use Rattle.promql_text.specs.PrintedLen.{cap_usize}
use Rattle.promql_rewrite.specs.AddedBytes.{added_to_list}
use Rattle.promql_rewrite.proofs.enforced_len.added_to_groups.Given as goal

abbrev pub invariant-loop-group : goal.invariant-loop-group
invariant-loop-group l = l.total ≡ cap_usize (sum_by (λ g. added_to_list 0 2 l.len (plain_matcher_of l.matcher) (map plain_matcher_of g.items)) (take l.group-index l.groups))

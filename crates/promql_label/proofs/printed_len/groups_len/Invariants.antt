use Rattle.std.proofs.Common.{◌≡◌, codes, map, take}
use Rattle.std.specs.List.{join_by}
use Rattle.promql_text.specs.PrintedLen.{printed_len}
use Rattle.promql_label.specs.PlainMatchers.{group_text}
use Rattle.promql_label.specs.MatcherViews.{plain_matcher_of}
use Rattle.promql_label.proofs.printed_len.groups_len.Given as goal

abbrev pub invariant-loop-i : goal.invariant-loop-i
invariant-loop-i l = l.total ≡ printed_len (join_by (λ g. group_text (map plain_matcher_of g.items)) (codes " or ") (take l.i l.groups))

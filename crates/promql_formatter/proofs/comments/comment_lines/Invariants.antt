use Rattle.std.proofs.Common.{◌≡◌, ◌++◌}
use Rattle.promql_token.specs.Scan.{items_left}
use Rattle.std.specs.Result.{ok_prefix}
use Rattle.promql_formatter.specs.Comments.{comment_lines, gaps}
use Rattle.promql_formatter.proofs.CommentScans.{in_gaps}
use Rattle.promql_formatter.proofs.comments.comment_lines.Given as goal

-- the comments so far, and those to come
abbrev pub invariant-loop-token : goal.invariant-loop-token
invariant-loop-token l =
    (goal.iterator-loop-token).can_next l.token-iterator ×
    (goal.iterator-loop-token).is_finite l.token-iterator ×
    (l.found.items ++ in_gaps (gaps l.text l.at (ok_prefix (items_left l.token-iterator))) ≡ comment_lines l.text)

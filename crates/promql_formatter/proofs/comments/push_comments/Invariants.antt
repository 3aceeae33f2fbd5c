use Rattle.std.proofs.Common.{◌≡◌, ◌++◌, false, drop}
use Rattle.promql_formatter.specs.CommentScans.{scan}
use Rattle.promql_formatter.proofs.comments.push_comments.Given as goal

-- what was found, and what is still to be found, is what is found in all
abbrev pub invariant-loop-byte : goal.invariant-loop-byte
invariant-loop-byte l = l.out.items ++ scan l.inside (drop l.byte-index l.gap) ≡ l.initial.out.items ++ scan false l.gap

use Rattle.std.proofs.Common.{◌≡◌, ◌++◌, length}
use Rattle.promql_programs.specs.Layouts.{with_feeds}
use Rattle.promql_programs.proofs.query_layout.with_feeds.Given as goal

abbrev pub decreases-loop-rest : goal.decreases-loop-rest
decreases-loop-rest l = length l.rest

-- the bytes so far, and those of what is left
abbrev pub invariant-loop-rest : goal.invariant-loop-rest
invariant-loop-rest l = l.bytes.items ++ with_feeds l.rest ≡ with_feeds l.fn.text

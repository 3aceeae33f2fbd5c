use Rattle.std.proofs.Common.{◌≡◌, ◌++◌, length, map}
use Rattle.promql_query.specs.Rejecting.{refused}
use Rattle.promql_query.proofs.findings.push_refusals.Given as goal

abbrev pub decreases-loop-rest : goal.decreases-loop-rest
decreases-loop-rest l = length l.rest

-- what is added, and what is still to be added, is all
abbrev pub invariant-loop-rest : goal.invariant-loop-rest
invariant-loop-rest l = l.findings.items ++ map (refused l.target) l.rest ≡ l.fn.findings.items ++ map (refused l.target) l.fn.refusals

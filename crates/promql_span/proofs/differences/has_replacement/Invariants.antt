use Rattle.std.proofs.Common.{◌≡◌, length}
use Rattle.promql_span.specs.Differences.{has_replacement}
use Rattle.promql_span.proofs.differences.has_replacement.Given as goal

abbrev pub decreases-loop-rest : goal.decreases-loop-rest
decreases-loop-rest l = length l.rest

abbrev pub invariant-loop-rest : goal.invariant-loop-rest
invariant-loop-rest l = has_replacement l.rest ≡ has_replacement l.string

use Rattle.std.proofs.Common.{◌≡◌, length, map}
use Rattle.promql_span.specs.DifferenceSteps.{matched}
use Rattle.promql_span.specs.Differences.{clashes}
use Rattle.promql_span.proofs.differences.has_clash.Given as goal

abbrev pub decreases-loop-rest : goal.decreases-loop-rest
decreases-loop-rest l = length l.rest

abbrev pub invariant-loop-rest : goal.invariant-loop-rest
invariant-loop-rest l = clashes (map matched l.rest) ≡ clashes (map matched l.all)

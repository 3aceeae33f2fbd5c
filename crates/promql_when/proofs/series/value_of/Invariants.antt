use Rattle.std.proofs.Common.{◌≡◌, length}
use Rattle.promql_when.specs.MayRead.{series_of}
use Rattle.promql_when.proofs.series.value_of.Given as goal

abbrev pub decreases-loop-rest : goal.decreases-loop-rest
decreases-loop-rest l = length l.rest

abbrev pub invariant-loop-rest : goal.invariant-loop-rest
invariant-loop-rest l = series_of l.rest l.name ≡ series_of l.series l.name

use Rattle.std.proofs.Common.{◌≡◌, false, length}
use Rattle.promql_label.specs.PatternMeasure as spec
use Rattle.promql_label.proofs.measure.may_fold.Given as goal

abbrev pub decreases-loop-rest : goal.decreases-loop-rest
decreases-loop-rest l = length l.rest

-- the rest of the value tells what all of it does
abbrev pub invariant-loop-rest : goal.invariant-loop-rest
invariant-loop-rest l = spec.may_fold l.in_flags l.rest ≡ spec.may_fold false l.value

use Rattle.std.proofs.Common.{◌≡◌, ◌-◌, ◌^◌, drop, max, min}
use Rattle.promql_label.specs.PatternMeasure as spec
use Rattle.promql_label.proofs.measure.greatest.Given as goal

-- the greatest number so far, with the bytes to come, is that of all
abbrev pub invariant-loop-b : goal.invariant-loop-b
invariant-loop-b l = min (max l.most (spec.greatest l.number (drop l.b-index l.value))) (2 ^ 64 - 1) ≡ min (spec.greatest 0 l.value) (2 ^ 64 - 1)

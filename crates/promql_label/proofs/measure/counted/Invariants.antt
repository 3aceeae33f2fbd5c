use Rattle.std.proofs.Common.{◌≡◌, ◌≤◌, ◌-◌, ◌*◌, ◌^◌, length, max, min}
use Rattle.promql_label.specs.PatternMeasure as spec
use Rattle.promql_label.proofs.measure.counted.Given as goal

abbrev pub decreases-loop-rest : goal.decreases-loop-rest
decreases-loop-rest l = length l.rest

-- the counts so far, with those to come, are those of all
abbrev pub invariant-loop-rest : goal.invariant-loop-rest
invariant-loop-rest l =
    (1 ≤ l.items) ×
    (min (max l.items (spec.item_repeats l.before l.rest)) (2 ^ 64 - 1) ≡ min (spec.item_repeats 0 l.value) (2 ^ 64 - 1)) ×
    (min (l.groups * spec.group_repeats l.before l.rest) (2 ^ 64 - 1) ≡ min (spec.group_repeats 0 l.value) (2 ^ 64 - 1))

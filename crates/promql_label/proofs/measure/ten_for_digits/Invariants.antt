use Rattle.std.proofs.Common.{◌≡◌, ◌<◌, ◌-◌, ◌*◌, ◌^◌, count_by, drop, min}
use Rattle.std.specs.Char.{is_ascii_digit}
use Rattle.promql_label.proofs.measure.ten_for_digits.Given as goal

-- ten for each digit so far, and for each to come, are those of all
abbrev pub invariant-loop-b : goal.invariant-loop-b
invariant-loop-b l =
    (l.repeats < 2 ^ 64) ×
    (min (l.repeats * 10 ^ count_by is_ascii_digit (drop l.b-index l.value)) (2 ^ 64 - 1) ≡ min (10 ^ count_by is_ascii_digit l.value) (2 ^ 64 - 1))

use Rattle.std.proofs.Common.{◌≡◌, ◌+◌, ◌^◌, ◌<◌, length}
use Rattle.std.specs.Prelude.{option_map}
use Rattle.promql_text.specs.Durations.{parts_nanos, units}
use Rattle.promql_text.specs.DurationReaders.{cap_u128}
use Rattle.promql_text.proofs.duration.parts.Given as goal

-- the total so far, and the nanoseconds of the rest
abbrev pub invariant-loop-units : goal.invariant-loop-units
invariant-loop-units l =
    (option_map (λ n. cap_u128 (l.total + n)) (parts_nanos l.units l.rest) ≡ option_map cap_u128 (parts_nanos units l.text))
    × (l.total < 2 ^ 128)

abbrev pub decreases-loop-units : goal.decreases-loop-units
decreases-loop-units l = length l.rest

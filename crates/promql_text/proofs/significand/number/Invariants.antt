use Rattle.std.proofs.Common.{◌≡◌, ◌<◌, ◌^◌, length}
use Rattle.std.specs.Str.Parse.{digits_value_after, digits_value}
use Rattle.promql_text.specs.DecimalForm.{digit_run}
use Rattle.promql_text.specs.DurationReaders.{cap_u128}
use Rattle.promql_text.proofs.significand.number.Given as goal

abbrev pub invariant-loop-c : goal.invariant-loop-c
invariant-loop-c g l =
    (cap_u128 (digits_value_after 10 l.number (digit_run (g.S.Source.left l.rest))) ≡ cap_u128 (digits_value 10 (digit_run (g.S.Source.left l.fn.text))))
    × (l.number < 2 ^ 128)

abbrev pub decreases-loop-c : goal.decreases-loop-c
decreases-loop-c g l = length (g.S.Source.left l.rest)

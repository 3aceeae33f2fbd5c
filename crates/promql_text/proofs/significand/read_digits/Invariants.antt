use Rattle.std.proofs.Common.{◌≡◌, ◌≢◌, ◌<◌, ◌*◌, ◌^◌, ◌≤◌, ◌+◌, length}
use Rattle.std.specs.Str.Parse.{digits_value_after}
use Rattle.promql_text.specs.DecimalForm.{digit_run}
use Rattle.promql_text.proofs.significand.read_digits.Given as goal

abbrev pub invariant-loop-c : goal.invariant-loop-c
invariant-loop-c g l =
    (digits_value_after 10 (l.read.digits * 10 ^ l.read.zeros) (digit_run (g.S.Source.left l.rest)) ≡ digits_value_after 10 (l.fn.before.digits * 10 ^ l.fn.before.zeros) (digit_run (g.S.Source.left l.fn.text)))
    × (l.read.zeros + length (g.S.Source.left l.rest) ≤ l.fn.before.zeros + length (g.S.Source.left l.fn.text))
    × (length (g.S.Source.left l.rest) ≢ length (g.S.Source.left l.fn.text) → length (g.S.Source.left l.fn.text) < 2 ^ 64)

abbrev pub decreases-loop-c : goal.decreases-loop-c
decreases-loop-c g l = length (g.S.Source.left l.rest)

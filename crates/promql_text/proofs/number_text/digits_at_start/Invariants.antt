use Rattle.std.proofs.Common.{◌≡◌, ◌+◌, ◌*◌, ◌^◌, ◌≤◌, length}
use Rattle.std.specs.Str.Parse.{digits_value_after}
use Rattle.promql_text.specs.DecimalForm.{digit_run, past_run}
use Rattle.promql_text.proofs.number_text.digits_at_start.Given as goal

abbrev pub invariant-loop-c : goal.invariant-loop-c
invariant-loop-c g l =
    (digits_value_after 10 l.number (digit_run (g.S.Source.left l.rest)) ≡ digits_value_after 10 l.fn.before (digit_run (g.S.Source.left l.fn.text)))
    × (past_run (g.S.Source.left l.rest) ≡ past_run (g.S.Source.left l.fn.text))
    × ((l.number + 1) * 10 ^ length (g.S.Source.left l.rest) ≤ 10 ^ 19)

abbrev pub decreases-loop-c : goal.decreases-loop-c
decreases-loop-c g l = length (g.S.Source.left l.rest)

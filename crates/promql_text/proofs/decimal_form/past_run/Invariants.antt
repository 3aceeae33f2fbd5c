use Rattle.std.proofs.Common.{◌≡◌, length}
use Rattle.promql_text.specs.DecimalForm as spec
use Rattle.promql_text.proofs.decimal_form.past_run.Given as goal

abbrev pub invariant-loop-c : goal.invariant-loop-c
invariant-loop-c g l = spec.past_run (g.S.Source.left l.rest) ≡ spec.past_run (g.S.Source.left l.fn.text)

abbrev pub decreases-loop-c : goal.decreases-loop-c
decreases-loop-c g l = length (g.S.Source.left l.rest)

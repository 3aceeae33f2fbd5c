use Rattle.std.proofs.Common.{◌≡◌, ◌≢◌, ◌<◌, ◌^◌, ◌+◌, length}
use Rattle.promql_text.specs.DecimalForm.{digit_run}
use Rattle.promql_text.proofs.significand.run_len.Given as goal

abbrev pub invariant-loop-c : goal.invariant-loop-c
invariant-loop-c g l =
    (l.count + length (digit_run (g.S.Source.left l.rest)) ≡ length (digit_run (g.S.Source.left l.fn.text)))
    × (l.count + length (g.S.Source.left l.rest) ≡ length (g.S.Source.left l.fn.text))
    × (length (g.S.Source.left l.rest) ≢ length (g.S.Source.left l.fn.text) → length (g.S.Source.left l.fn.text) < 2 ^ 64)

abbrev pub decreases-loop-c : goal.decreases-loop-c
decreases-loop-c g l = length (g.S.Source.left l.rest)

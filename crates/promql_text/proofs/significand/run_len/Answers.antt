use Rattle.std.proofs.Common.{arith}
use Rattle.promql_text.proofs.numerals.Runs.{digit_run_digit, digit_run_other}
use Rattle.promql_text.proofs.significand.run_len.Goals as goal

pub loop-c-preserved : goal.loop-c-preserved
loop-c-preserved g c = grind (arith, digit_run_digit, digit_run_other)

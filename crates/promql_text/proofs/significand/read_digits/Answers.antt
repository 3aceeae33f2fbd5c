use Rattle.std.proofs.Common.{arith}
use Rattle.promql_text.proofs.numbers.Tens.{long_run}
use Rattle.promql_text.proofs.numerals.Runs.{digit_run_digit, digit_run_other}
use Rattle.promql_text.proofs.significand.read_digits.Goals as goal

pub loop-c-preserved : goal.loop-c-preserved
loop-c-preserved g c = grind (arith, digit_run_digit, digit_run_other, long_run)

pub returns-in_err-read-clause-value : goal.returns-in_err-read-clause-value
returns-in_err-read-clause-value g c = grind (arith, digit_run_digit, digit_run_other, long_run)

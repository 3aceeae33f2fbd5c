use Rattle.std.proofs.Common.{arith}
use Rattle.promql_text.proofs.numerals.Runs.{digit_run_other}
use Rattle.promql_text.proofs.durations.SaturatingParts.{capped_small, count_more}
use Rattle.promql_text.proofs.significand.number.Goals as goal

pub loop-c-preserved : goal.loop-c-preserved
loop-c-preserved g c = grind (arith, digit_run_other, count_more, capped_small)

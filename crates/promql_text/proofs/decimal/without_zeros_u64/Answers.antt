use Rattle.std.proofs.Common.{arith}
use Rattle.promql_text.proofs.numbers.Tens.{whole_step, zeros_below}
use Rattle.promql_text.proofs.decimal.without_zeros_u64.Goals as goal

pub loop-digits-preserved : goal.loop-digits-preserved
loop-digits-preserved c = whole_step c.loop-digits.digits c.loop-digits.zeros c.args.n c.loop-digits.invariant.0 c.loop-digits-test.true c.loop-digits.invariant.1

pub overflow_add-zeros : goal.overflow_add-zeros
overflow_add-zeros c = omega (arith, zeros_below c.loop-digits.digits c.loop-digits.zeros c.args.n 20 c.loop-digits.invariant.0 c.loop-digits.invariant.1 (omega arith))

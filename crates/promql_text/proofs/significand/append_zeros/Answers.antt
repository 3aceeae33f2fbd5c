use Rattle.std.proofs.Common.{arith, ◌∙◌, ap, ◌*◌, sym}
use Rattle.promql_text.proofs.numbers.Tens.{shift_le, times_ten}
use Rattle.promql_text.proofs.significand.append_zeros.Goals as goal

pub returns-then-number : goal.returns-then-number
returns-then-number c =
    let low = shift_le c.args.digits c.loop-i._i c.args.zeros c.loop-i-test.true in
    λ small. omega (arith, low, small, c.loop-i.invariant.0)

pub loop-i-preserved : goal.loop-i-preserved
loop-i-preserved c = (ap (λ n. n * 10) c.loop-i.invariant.0 ∙ sym (times_ten c.args.digits c.loop-i._i), omega arith)

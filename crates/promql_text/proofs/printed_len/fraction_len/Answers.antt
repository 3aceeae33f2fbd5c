use Rattle.std.proofs.Common.{arith, ◌-◌, ◌+◌}
use Rattle.promql_text.proofs.numerals.Fractions.{ten_above}
use Rattle.promql_text.proofs.writing.PrintedLengths.{count_more, count_below, fraction_width_end, fraction_left}
use Rattle.promql_text.proofs.printed_len.fraction_len.Goals as goal

pub nonzero_rem-rest : goal.nonzero_rem-rest
nonzero_rem-rest c = ten_above (9 - (c.loop-rest.count + 1)) c.pow-rest.result c.pow-rest.ensures

pub loop-rest-preserved : goal.loop-rest-preserved
loop-rest-preserved c =
    let had = c.loop-rest.invariant in
    let early = fraction_left c.loop-rest.count c.loop-rest.rest c.loop-rest-test.true had.room had.below in
    record {
      count = count_more c.loop-rest.count c.loop-rest.rest c.pow-rest.result _ early c.loop-rest-test.true c.pow-rest.ensures had.count;
      room = omega (arith, early);
      below = count_below c.loop-rest.count c.loop-rest.rest c.pow-rest.result c.pow-rest.ensures;
    }

pub returns-clause-value : goal.returns-clause-value
returns-clause-value c = omega (arith, c.loop-rest.invariant.count, fraction_width_end (9 - c.loop-rest.count) c.loop-rest.rest c.loop-rest-test.false)

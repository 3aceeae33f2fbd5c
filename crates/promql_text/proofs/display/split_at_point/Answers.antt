use Rattle.std.proofs.Common.{arith}
use Rattle.promql_text.proofs.numerals.Points.{all_after_point, power_fits}
use Rattle.promql_text.proofs.numbers.Tens.{ten_pos}
use Rattle.promql_text.proofs.display.split_at_point.Goals as goal

pub returns-then-places-ge38 : goal.returns-then-places-ge38
returns-then-places-ge38 c = all_after_point c.args.digits c.args.places c.requires c.if-places-ge38.true

pub pow-power-requires : goal.pow-power-requires
pow-power-requires c = power_fits c.from.result (omega arith)

pub nonzero_div-result : goal.nonzero_div-result
nonzero_div-result c = let h = ten_pos c.from.result in omega (arith, h)

pub nonzero_rem-result : goal.nonzero_rem-result
nonzero_rem-result c = let h = ten_pos c.from.result in omega (arith, h)

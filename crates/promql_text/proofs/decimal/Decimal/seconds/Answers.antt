use Rattle.std.proofs.Common.{◌<◌, arith}
use Rattle.promql_text.proofs.numbers.Exacts.{seconds_value, with_places_is}
use Rattle.promql_text.proofs.decimal.Decimal.seconds.Goals as goal

pub invariant_of-result : goal.invariant_of-result
invariant_of-result c =
    let made = c.without_zeros-digits in
    let ends = made.ensures.ends in
    let some : 0 < made.result.0 = omega (arith, ends) in
    rw (c.new.ensures, c.saturating_sub.ensures, c.saturating_sub-2.ensures)
    (with_places_is made.result.0 made.result.1 c.args.nanos 9 made.ensures.value some ends c.requires (omega arith))

pub returns : goal.returns
returns c =
    let made = c.without_zeros-digits in
    let ends = made.ensures.ends in
    let some : 0 < made.result.0 = omega (arith, ends) in
    rw (c.new.ensures, c.saturating_sub.ensures, c.saturating_sub-2.ensures)
    (seconds_value made.result.0 made.result.1 c.args.nanos made.ensures.value some ends c.requires)

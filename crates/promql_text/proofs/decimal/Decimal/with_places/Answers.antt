use Rattle.std.proofs.Common.{◌<◌, arith}
use Rattle.promql_text.proofs.numbers.Exacts.{with_places_is, with_places_value}
use Rattle.promql_text.proofs.decimal.Decimal.with_places.Goals as goal

pub invariant_of-result : goal.invariant_of-result
invariant_of-result c =
    let made = c.without_zeros_u64-digits in
    let ends = made.ensures.ends in
    let some : 0 < made.result.0 = omega (arith, ends) in
    rw (c.new.ensures, c.from.ensures, c.saturating_sub.ensures, c.saturating_sub-2.ensures)
    (with_places_is made.result.0 made.result.1 c.args.n c.args.places made.ensures.value some ends (omega arith) c.requires)

pub returns : goal.returns
returns c =
    let made = c.without_zeros_u64-digits in
    let ends = made.ensures.ends in
    let some : 0 < made.result.0 = omega (arith, ends) in
    rw (c.new.ensures, c.from.ensures, c.saturating_sub.ensures, c.saturating_sub-2.ensures)
    (with_places_value made.result.0 made.result.1 c.args.n c.args.places made.ensures.value some ends c.ranges.n.fits c.requires)

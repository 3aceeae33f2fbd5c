use Rattle.std.proofs.Common.{◌≡◌, ◌<◌, ◌*◌, ◌^◌, arith}
use Rattle.promql_text.proofs.numbers.Exacts.{whole_is, whole_value}
use Rattle.promql_text.proofs.decimal.Decimal.whole.Goals as goal

pub invariant_of-result : goal.invariant_of-result
invariant_of-result c =
    let digits = c.without_zeros_u64-digits.result.0 in
    let zeros = c.without_zeros_u64-digits.result.1 in
    let is : digits * 10 ^ zeros ≡ c.args.n = c.without_zeros_u64-digits.ensures.value in
    let ends = c.without_zeros_u64-digits.ensures.ends in
    let some : 0 < digits = omega (arith, ends) in
    rw (c.new.ensures, c.from.ensures) (whole_is c.args.is_negative digits zeros c.args.n is some ends c.ranges.n.fits)

pub returns : goal.returns
returns c =
    let digits = c.without_zeros_u64-digits.result.0 in
    let zeros = c.without_zeros_u64-digits.result.1 in
    let is : digits * 10 ^ zeros ≡ c.args.n = c.without_zeros_u64-digits.ensures.value in
    let ends = c.without_zeros_u64-digits.ensures.ends in
    let some : 0 < digits = omega (arith, ends) in
    rw (c.new.ensures, c.from.ensures) (whole_value c.args.is_negative digits zeros c.args.n is some ends c.ranges.n.fits)

use Rattle.std.proofs.Common.{arith}
use Rattle.promql_text.proofs.numerals.Radix.{radix_value_ge}
use Rattle.promql_text.proofs.number_text.magnitude.Goals as goal

pub returns-then-number-ge9223372036854775808 : goal.returns-then-number-ge9223372036854775808
returns-then-number-ge9223372036854775808 g c = grind (arith, radix_value_ge)

use Rattle.promql_text.proofs.numbers.Exacts.{exact_zero_is}
use Rattle.promql_text.proofs.decimal.Decimal.zero.Goals as goal

pub invariant_of-result : goal.invariant_of-result
invariant_of-result c = rw c.new.ensures exact_zero_is

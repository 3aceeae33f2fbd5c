use Rattle.promql_text.proofs.numbers.NumberValues.{whole_value}
use Rattle.promql_text.proofs.laws.whole_numbers_are_exact.Goals as goal

pub returns : goal.returns
returns c = whole_value

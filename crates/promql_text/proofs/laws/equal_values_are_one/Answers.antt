use Rattle.promql_text.proofs.numbers.OneForm.{one_form}
use Rattle.promql_text.proofs.laws.equal_values_are_one.Goals as goal

pub returns : goal.returns
returns c = one_form

use Rattle.promql_text.proofs.numbers.OneForm.{negated_in_form}
use Rattle.promql_text.proofs.laws.negated_numbers_are_numbers.Goals as goal

pub returns : goal.returns
returns c = negated_in_form

use Rattle.promql_text.proofs.numbers.InForm.{read_in_form}
use Rattle.promql_text.proofs.laws.read_numbers_are_numbers.Goals as goal

pub returns : goal.returns
returns c = read_in_form

use Rattle.promql_text.proofs.numerals.SpelledForms.{forms_spelled}
use Rattle.promql_text.proofs.laws.decimal_forms_are_spelled.Goals as goal

pub returns : goal.returns
returns c = forms_spelled

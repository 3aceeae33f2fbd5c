use Rattle.promql_text.proofs.numerals.SpelledNumerals.{numeral_spelled}
use Rattle.promql_text.proofs.laws.numerals_are_spelled.Goals as goal

pub returns : goal.returns
returns c = numeral_spelled

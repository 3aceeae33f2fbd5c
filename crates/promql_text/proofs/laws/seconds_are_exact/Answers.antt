use Rattle.promql_text.proofs.numerals.ShortNumbers.{seconds_exact}
use Rattle.promql_text.proofs.laws.seconds_are_exact.Goals as goal

pub returns : goal.returns
returns c = seconds_exact

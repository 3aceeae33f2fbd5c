use Rattle.std.proofs.Common.{refl}
use Rattle.promql_text.proofs.numerals.Radix.{digits_summed}
use Rattle.promql_text.proofs.laws.digits_are_summed.Goals as goal

pub returns-clause-none : goal.returns-clause-none
returns-clause-none c = λ radix. refl

pub returns-clause-more : goal.returns-clause-more
returns-clause-more c = digits_summed

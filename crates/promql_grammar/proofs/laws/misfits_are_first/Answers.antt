use Rattle.promql_grammar.proofs.NoneFit.{misfits, misfits_after}
use Rattle.promql_grammar.proofs.laws.misfits_are_first.Goals as goal

pub returns-clause-stops : goal.returns-clause-stops
returns-clause-stops c = misfits

pub returns-clause-goes_on : goal.returns-clause-goes_on
returns-clause-goes_on c = λ n ts rest x d is. misfits_after n ts x rest d is

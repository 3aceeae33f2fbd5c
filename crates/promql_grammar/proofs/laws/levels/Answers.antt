use Rattle.promql_grammar.proofs.Levels.{bases_are_open, level_by_lists, signed_fit_right}
use Rattle.promql_grammar.proofs.laws.levels.Goals as goal

pub returns-clause-operator : goal.returns-clause-operator
returns-clause-operator c = level_by_lists

pub returns-clause-base : goal.returns-clause-base
returns-clause-base c = bases_are_open

pub returns-clause-signed : goal.returns-clause-signed
returns-clause-signed c = signed_fit_right

use Rattle.promql_grammar.proofs.KindUses.{beginnings_are_listed, called_are_listed, labels_are_listed, names_are_listed, punctuation_is_listed}
use Rattle.promql_grammar.proofs.laws.kinds_by_use.Goals as goal

pub returns-clause-punctuation : goal.returns-clause-punctuation
returns-clause-punctuation c = punctuation_is_listed

pub returns-clause-name : goal.returns-clause-name
returns-clause-name c = names_are_listed

pub returns-clause-label : goal.returns-clause-label
returns-clause-label c = labels_are_listed

pub returns-clause-called : goal.returns-clause-called
returns-clause-called c = called_are_listed

pub returns-clause-begin : goal.returns-clause-begin
returns-clause-begin c = beginnings_are_listed

use Rattle.promql_label.proofs.regex_answers.Reading.{read_as_it_is}
use Rattle.promql_label.proofs.pattern.read_value.Goals as goal

pub returns-in-Some-clause-built : goal.returns-in-Some-clause-built
returns-in-Some-clause-built g c = read_as_it_is _ _ _ _ c.in-Some.is c.in_ok-pattern.ensures

use Rattle.promql_grammar.proofs.Levels.{groups_fit}
use Rattle.promql_grammar.proofs.laws.grouping_words.Goals as goal

pub returns : goal.returns
returns c = groups_fit

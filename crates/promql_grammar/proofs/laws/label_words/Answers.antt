use Rattle.promql_grammar.proofs.LabelWords.{labels_are_words}
use Rattle.promql_grammar.proofs.laws.label_words.Goals as goal

pub returns : goal.returns
returns c = labels_are_words

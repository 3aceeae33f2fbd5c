use Rattle.promql_syntax.proofs.readback.CanonicalTexts.{answer_has, has_answer}
use Rattle.promql_syntax.proofs.laws.answers_are_trees.Goals as goal

pub returns : goal.returns
returns c = record { has = answer_has; is = has_answer }

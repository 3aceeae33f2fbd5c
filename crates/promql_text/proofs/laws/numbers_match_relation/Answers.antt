use Rattle.promql_text.proofs.numbers.NumberRelation.{numbers_told}
use Rattle.promql_text.proofs.laws.numbers_match_relation.Goals as goal

pub returns : goal.returns
returns c = numbers_told

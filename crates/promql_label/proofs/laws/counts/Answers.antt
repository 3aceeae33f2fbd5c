use Rattle.promql_label.proofs.pattern_weight.RepeatCounts.{opens_count_of_relation, count_of}
use Rattle.promql_label.proofs.laws.counts.Goals as goal

pub returns : goal.returns
returns c = λ z. (count_of z, opens_count_of_relation z)

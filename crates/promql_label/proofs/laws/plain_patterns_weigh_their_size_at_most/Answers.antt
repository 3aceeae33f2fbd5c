use Rattle.promql_label.proofs.plain_patterns.PlainPatternsRead.{plain_weighs, plain_weighs_anchored}
use Rattle.promql_label.proofs.laws.plain_patterns_weigh_their_size_at_most.Goals as goal

pub returns-clause-alone : goal.returns-clause-alone
returns-clause-alone c = plain_weighs

pub returns-clause-anchored : goal.returns-clause-anchored
returns-clause-anchored c = plain_weighs_anchored

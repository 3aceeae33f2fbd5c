use Rattle.promql_rewrite.proofs.laws.matchers_by_operator.Goals as goal
use Rattle.promql_rewrite.proofs.readback.AnsweredMatchers.{answered_is, metric_is}

pub returns : goal.returns
returns c = record { answered = answered_is; metrics = metric_is }

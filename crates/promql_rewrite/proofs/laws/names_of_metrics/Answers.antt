use Rattle.promql_rewrite.proofs.laws.names_of_metrics.Goals as goal
use Rattle.promql_rewrite.proofs.renamed.MetricNames.{is_name_is}

pub returns : goal.returns
returns c = is_name_is

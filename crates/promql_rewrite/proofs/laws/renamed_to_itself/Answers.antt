use Rattle.promql_rewrite.proofs.renamed.RenamedAlike.{label_itself, metric_itself}
use Rattle.promql_rewrite.proofs.laws.renamed_to_itself.Goals as goal

pub returns : goal.returns
returns c = record { labels = label_itself; metrics = metric_itself }

use Rattle.promql_rewrite.proofs.renamed.RenamedNames.{functions_renamed, labels_kept, labels_renamed, metrics_kept, metrics_renamed}
use Rattle.promql_rewrite.proofs.laws.renamed_names.Goals as goal

pub returns : goal.returns
returns c = record { labels = λ from to t old new. labels_renamed from to old new t; metrics = metrics_renamed; functions = functions_renamed; other_metrics = λ from to t old new. metrics_kept from to old new t; other_labels = labels_kept }

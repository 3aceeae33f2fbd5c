use Rattle.promql_rewrite.proofs.laws.renamings_change_parts.Goals as goal
use Rattle.promql_rewrite.proofs.renamed.RenamedParts.{label_parts, label_selector, metric_parts, metric_selector}

pub returns : goal.returns
returns c = record { metrics = metric_parts; labels = label_parts; metric_selectors = metric_selector; label_selectors = label_selector }

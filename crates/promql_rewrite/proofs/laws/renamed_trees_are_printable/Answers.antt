use Rattle.promql_rewrite.specs.Renaming.{of_label, of_metric, renamed}
use Rattle.promql_rewrite.proofs.renamed.ClashingLabels.{apart_listed}
use Rattle.promql_rewrite.proofs.readback.PrintableByNodes.{printable_apart, printable_joined}
use Rattle.promql_rewrite.proofs.renamed.RenamedPrintable.{label_printable, metric_printable}
use Rattle.promql_rewrite.proofs.laws.renamed_trees_are_printable.Goals as goal

pub returns : goal.returns
returns c = record {
  labels = λ g from to t old new apart h. printable_apart g (renamed (of_label from to) t) (label_printable from to g t old new (apart_listed from to t old new apart) (printable_joined g t h));
  metrics = λ g from to t named h. printable_apart g (renamed (of_metric from to) t) (metric_printable from to g t named (printable_joined g t h));
}

use Rattle.promql_label.proofs.label_lists.CommonLabels.{common-once}
use Rattle.promql_label.proofs.laws.common_labels_are_distinct.Goals as goal

pub returns : goal.returns
returns c = common-once

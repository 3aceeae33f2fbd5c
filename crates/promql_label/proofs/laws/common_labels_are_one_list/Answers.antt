use Rattle.promql_label.proofs.label_lists.CommonLabels.{common-only}
use Rattle.promql_label.proofs.laws.common_labels_are_one_list.Goals as goal

pub returns : goal.returns
returns c = common-only

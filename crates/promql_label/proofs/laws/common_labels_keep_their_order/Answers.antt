use Rattle.promql_label.proofs.label_lists.CommonLabels.{common-order}
use Rattle.promql_label.proofs.laws.common_labels_keep_their_order.Goals as goal

pub returns : goal.returns
returns c = common-order

use Rattle.promql_label.proofs.label_lists.CommonLabels.{joint-common}
use Rattle.promql_label.proofs.laws.joint_lists_have_common_labels.Goals as goal

pub returns : goal.returns
returns c = joint-common

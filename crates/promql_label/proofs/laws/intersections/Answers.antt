use Rattle.promql_label.proofs.label_lists.CommonLabels.{common-Contains}
use Rattle.promql_label.proofs.laws.intersections.Goals as goal

pub returns : goal.returns
returns c = common-Contains

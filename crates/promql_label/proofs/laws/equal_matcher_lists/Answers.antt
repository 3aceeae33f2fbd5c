use Rattle.promql_label.proofs.equality.SameMatchers.{list_Decides}
use Rattle.promql_label.proofs.laws.equal_matcher_lists.Goals as goal

pub returns : goal.returns
returns c = list_Decides

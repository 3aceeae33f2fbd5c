use Rattle.promql_rewrite.proofs.names.OneSet.{one_set}
use Rattle.promql_rewrite.proofs.laws.sets_are_one_list.Goals as goal

pub returns : goal.returns
returns c = one_set

use Rattle.promql_walk.proofs.OwnChildren.{own}
use Rattle.promql_walk.proofs.laws.own_children.Goals as goal

pub returns : goal.returns
returns c = own

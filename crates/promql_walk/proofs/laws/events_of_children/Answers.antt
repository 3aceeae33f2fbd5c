use Rattle.promql_walk.proofs.OwnChildren.{of_children}
use Rattle.promql_walk.proofs.laws.events_of_children.Goals as goal

pub returns : goal.returns
returns c = of_children

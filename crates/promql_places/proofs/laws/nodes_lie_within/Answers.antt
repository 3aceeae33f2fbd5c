use Rattle.promql_places.proofs.BuiltNodes.{lie_below}
use Rattle.promql_places.proofs.laws.nodes_lie_within.Goals as goal

pub returns : goal.returns
returns c = λ k d. lie_below d k

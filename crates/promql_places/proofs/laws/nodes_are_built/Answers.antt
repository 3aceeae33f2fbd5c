use Rattle.promql_places.proofs.BuiltNodes.{builds_nodes}
use Rattle.promql_places.proofs.laws.nodes_are_built.Goals as goal

pub returns : goal.returns
returns c = λ k d t g. builds_nodes k d t g

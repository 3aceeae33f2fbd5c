use Rattle.promql_places.specs.NodePlaces.{nodes}
use Rattle.promql_places.proofs.Lying.{IsNested}
use Rattle.promql_places.proofs.BuiltNodes.{nodes_nested}
use Rattle.promql_places.proofs.Pairs.{pairs_of}
use Rattle.promql_places.proofs.laws.nodes_nest.Goals as goal

pub returns : goal.returns
returns c = λ k d. pairs_of IsNested (nodes k d) (nodes_nested k d)

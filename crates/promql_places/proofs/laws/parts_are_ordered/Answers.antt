use Rattle.promql_places.specs.NodeParts.{parts}
use Rattle.promql_places.proofs.Lying.{Follows}
use Rattle.promql_places.proofs.LyingParts.{parts_fit}
use Rattle.promql_places.proofs.Pairs.{pairs_of}
use Rattle.promql_places.proofs.laws.parts_are_ordered.Goals as goal

pub returns : goal.returns
returns c = λ k d. pairs_of Follows (parts k d) (parts_fit d k).ordered

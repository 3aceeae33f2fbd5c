use Rattle.promql_kind.proofs.Equal.{cardinality_Decides}
use Rattle.promql_kind.proofs.laws.equal_cardinalities.Goals as goal

pub returns : goal.returns
returns c = cardinality_Decides

use Rattle.promql_kind.proofs.Equal.{type_Decides}
use Rattle.promql_kind.proofs.laws.equal_value_types.Goals as goal

pub returns : goal.returns
returns c = type_Decides

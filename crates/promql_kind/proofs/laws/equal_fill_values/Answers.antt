use Rattle.promql_kind.proofs.Equal.{fills_Decides}
use Rattle.promql_kind.proofs.laws.equal_fill_values.Goals as goal

pub returns : goal.returns
returns c = fills_Decides

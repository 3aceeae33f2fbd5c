use Rattle.promql_kind.proofs.Equal.{function_Decides}
use Rattle.promql_kind.proofs.laws.equal_functions.Goals as goal

pub returns : goal.returns
returns c = function_Decides

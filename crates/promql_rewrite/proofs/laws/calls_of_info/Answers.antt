use Rattle.promql_rewrite.proofs.enforcement.BareCalls.{info_calls}
use Rattle.promql_rewrite.proofs.laws.calls_of_info.Goals as goal

pub returns : goal.returns
returns c = info_calls

use Rattle.promql_token.proofs.cursors.SameTokens.{kind_Decides, fault_Decides, error_Decides}
use Rattle.promql_token.proofs.laws.equal_faults.Goals as goal

pub returns : goal.returns
returns c = record { kinds = kind_Decides; faults = fault_Decides; errors = error_Decides }

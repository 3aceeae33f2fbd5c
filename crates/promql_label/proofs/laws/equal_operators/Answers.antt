use Rattle.promql_label.proofs.equality.SameMatchers.{operator_Decides, operator_hashes_alike}
use Rattle.promql_label.proofs.laws.equal_operators.Goals as goal

pub returns : goal.returns
returns c = record { same = operator_Decides; hashed = operator_hashes_alike }

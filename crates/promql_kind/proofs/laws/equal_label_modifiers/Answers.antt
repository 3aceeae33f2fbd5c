use Rattle.promql_kind.proofs.Equal.{clause_Decides}
use Rattle.promql_kind.proofs.laws.equal_label_modifiers.Goals as goal

pub returns : goal.returns
returns c = clause_Decides

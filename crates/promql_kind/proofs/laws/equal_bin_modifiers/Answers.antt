use Rattle.promql_kind.proofs.Equal.{matching_Decides}
use Rattle.promql_kind.proofs.laws.equal_bin_modifiers.Goals as goal

pub returns : goal.returns
returns c = matching_Decides

use Rattle.promql_run.proofs.SameRunErrors.{error_Decides}
use Rattle.promql_run.proofs.laws.equal_errors.Goals as goal

pub returns : goal.returns
returns c = error_Decides c.equal_errors.ensures

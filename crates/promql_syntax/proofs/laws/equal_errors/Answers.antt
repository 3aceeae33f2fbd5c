use Rattle.promql_syntax.proofs.answer.SameParseErrors.{error_Decides}
use Rattle.promql_syntax.proofs.laws.equal_errors.Goals as goal

pub returns : goal.returns
returns c = error_Decides c.equal_faults.ensures.faults

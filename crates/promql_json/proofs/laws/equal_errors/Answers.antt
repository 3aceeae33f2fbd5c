use Rattle.promql_json.proofs.SameJsonErrors.{error_Decides}
use Rattle.promql_json.proofs.laws.equal_errors.Goals as goal

pub returns : goal.returns
returns c = error_Decides

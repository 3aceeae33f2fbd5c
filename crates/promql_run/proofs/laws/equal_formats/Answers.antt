use Rattle.promql_run.proofs.SameRunErrors.{format_Decides}
use Rattle.promql_run.proofs.laws.equal_formats.Goals as goal

pub returns : goal.returns
returns c = format_Decides

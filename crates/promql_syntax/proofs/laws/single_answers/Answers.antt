use Rattle.promql_syntax.proofs.building.Ending.{single_ends}
use Rattle.promql_syntax.proofs.readback.CanonicalTexts.{served_as_built}
use Rattle.promql_syntax.proofs.laws.single_answers.Goals as goal

pub returns : goal.returns
returns c = record { ends = single_ends; built = served_as_built }

use Rattle.promql_json.proofs.NoFloat.{no_float_of_json}
use Rattle.promql_json.proofs.laws.forms_without_floats.Goals as goal

pub returns : goal.returns
returns c = no_float_of_json

use Rattle.promql_json.proofs.Forms.{forms}
use Rattle.promql_json.proofs.laws.forms_without_faults.Goals as goal

pub returns : goal.returns
returns c = forms

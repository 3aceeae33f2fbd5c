use Rattle.promql_ast.proofs.laws.normal_forms_change_parts.Goals as goal
use Rattle.promql_ast.proofs.normal_form.NormalParts.{normal_parts}

pub returns : goal.returns
returns c = normal_parts

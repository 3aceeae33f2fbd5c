use Rattle.promql_ast.proofs.normal_form.NormalForms.{normal_twice}
use Rattle.promql_ast.proofs.laws.normal_forms_are_normal.Goals as goal

pub returns : goal.returns
returns c = normal_twice

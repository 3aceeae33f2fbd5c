use Rattle.promql_ast.proofs.normal_form.NormalForms.{text_alike}
use Rattle.promql_ast.proofs.laws.normal_forms_print_alike.Goals as goal

pub returns : goal.returns
returns c = text_alike

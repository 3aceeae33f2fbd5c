use Rattle.std.proofs.Common.{refl}
use Rattle.promql_ast.proofs.laws.last_arguments.Goals as goal
use Rattle.promql_ast.proofs.nodes.LastArguments.{last_appended}

pub returns : goal.returns
returns c = record { none = refl; appended = last_appended }

use Rattle.promql_ast.proofs.checking.CheckedTyped.{checked_typed}
use Rattle.promql_ast.proofs.laws.checked_trees_are_typed.Goals as goal

pub returns : goal.returns
returns c = checked_typed

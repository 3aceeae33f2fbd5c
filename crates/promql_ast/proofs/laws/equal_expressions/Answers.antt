use Rattle.promql_ast.specs.SameLaws.{tree_eq-Decides}
use Rattle.promql_ast.specs.View.{tree_of}
use Rattle.promql_ast.proofs.laws.equal_expressions.Goals as goal

pub returns : goal.returns
returns c = λ a b. tree_eq-Decides (tree_of a) (tree_of b)

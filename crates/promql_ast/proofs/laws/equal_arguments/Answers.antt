use Rattle.promql_ast.specs.SameLaws.{trees_eq-Decides}
use Rattle.promql_ast.specs.View.{trees_of}
use Rattle.promql_ast.proofs.laws.equal_arguments.Goals as goal

pub returns : goal.returns
returns c = λ a b. trees_eq-Decides (trees_of a.args.items) (trees_of b.args.items)

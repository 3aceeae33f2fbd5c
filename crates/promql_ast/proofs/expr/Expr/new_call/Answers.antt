use Rattle.promql_ast.proofs.nodes.NodeParts.{tree_of_call}
use Rattle.promql_ast.proofs.expr.Expr.new_call.Goals as goal

pub returns : goal.returns
returns c = tree_of_call record { func = c.args.func; args = c.args.args }

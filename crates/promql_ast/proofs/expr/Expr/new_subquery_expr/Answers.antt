use Rattle.std.proofs.Common.{arith}
use Rattle.std.proofs.lemmas.Grind.{common_steps}
use Rattle.promql_ast.proofs.expr.Expr.new_subquery_expr.Goals as goal

pub returns : goal.returns
returns c = grind (arith, common_steps)

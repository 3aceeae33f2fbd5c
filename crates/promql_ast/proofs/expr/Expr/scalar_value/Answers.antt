use Rattle.promql_ast.proofs.checking.Fallbacks.{no_scalar}
use Rattle.promql_ast.proofs.expr.Expr.scalar_value.Goals as goal

pub returns-in_default : goal.returns-in_default
returns-in_default c = no_scalar c.args.self.now c.in_default.not-NumberLiteral

use Rattle.promql_ast.proofs.checking.Fallbacks.{minus_other}
use Rattle.promql_ast.proofs.unary.check_operand.Goals as goal

pub returns-in_default : goal.returns-in_default
returns-in_default c = minus_other c.args.expr.now c.in_default.not-StringLiteral c.in_default.not-MatrixSelector

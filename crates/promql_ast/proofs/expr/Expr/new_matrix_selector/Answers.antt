use Rattle.promql_ast.proofs.checking.Fallbacks.{ranged_other, rejects}
use Rattle.promql_ast.specs.declared.fault.NodeFault.TheVariants.{RangeBase}
use Rattle.promql_ast.proofs.expr.Expr.new_matrix_selector.Goals as goal

pub returns-in_default : goal.returns-in_default
returns-in_default c = rejects _ RangeBase _ c.into.ensures (ranged_other c.args.expr _ c.in_default.not-VectorSelector)

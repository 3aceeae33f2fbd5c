use Rattle.std.proofs.Common.{refl, arith}
use Rattle.std.proofs.lemmas.Grind.{common_steps}
use Rattle.promql_ast.proofs.checking.Fallbacks.{mode_other}
use Rattle.promql_ast.proofs.expr.Expr.set_mode.Goals as goal

pub returns-in_default : goal.returns-in_default
returns-in_default c = record { given = mode_other c.args.self.now _ c.in_default.not-MatrixSelector; unchanged = refl }

pub returns-in-Anchored-clause-unchanged : goal.returns-in-Anchored-clause-unchanged
returns-in-Anchored-clause-unchanged c = grind (arith, common_steps)

pub returns-in-Plain-clause-given : goal.returns-in-Plain-clause-given
returns-in-Plain-clause-given c = grind (arith, common_steps)

pub returns-in-Smoothed-clause-unchanged : goal.returns-in-Smoothed-clause-unchanged
returns-in-Smoothed-clause-unchanged c = grind (arith, common_steps)

use Rattle.std.proofs.Common.{refl, arith}
use Rattle.std.proofs.lemmas.Grind.{common_steps}
use Rattle.promql_ast.proofs.checking.Fallbacks.{ranged_other}
use Rattle.promql_ast.proofs.expr.Expr.set_range.Goals as goal

pub returns-in_default : goal.returns-in_default
returns-in_default c = record { given = ranged_other c.args.self.now _ c.in_default.not-VectorSelector; unchanged = refl }

pub returns-clause-given : goal.returns-clause-given
returns-clause-given c = grind (arith, common_steps)

pub returns-then-is_some-clause-unchanged : goal.returns-then-is_some-clause-unchanged
returns-then-is_some-clause-unchanged c = grind (arith, common_steps)

pub returns-then-is_some-2-clause-unchanged : goal.returns-then-is_some-2-clause-unchanged
returns-then-is_some-2-clause-unchanged c = grind (arith, common_steps)

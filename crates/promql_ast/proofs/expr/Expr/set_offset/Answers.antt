use Rattle.std.proofs.Common.{refl, arith}
use Rattle.std.proofs.lemmas.Grind.{common_steps}
use Rattle.promql_ast.proofs.checking.Fallbacks.{offset_other}
use Rattle.promql_ast.proofs.expr.Expr.set_offset.Goals as goal

pub returns-in_default : goal.returns-in_default
returns-in_default c = record { given = offset_other c.args.self.now _ c.in_default.not-VectorSelector c.in_default.not-MatrixSelector c.in_default.not-Subquery; unchanged = refl }

pub returns-else-is_some-clause-given : goal.returns-else-is_some-clause-given
returns-else-is_some-clause-given c = grind (arith, common_steps)

pub returns-else-is_some-2-clause-given : goal.returns-else-is_some-2-clause-given
returns-else-is_some-2-clause-given c = grind (arith, common_steps)

pub returns-else-is_some-3-clause-given : goal.returns-else-is_some-3-clause-given
returns-else-is_some-3-clause-given c = grind (arith, common_steps)

pub returns-then-is_some-clause-unchanged : goal.returns-then-is_some-clause-unchanged
returns-then-is_some-clause-unchanged c = grind (arith, common_steps)

pub returns-then-is_some-2-clause-unchanged : goal.returns-then-is_some-2-clause-unchanged
returns-then-is_some-2-clause-unchanged c = grind (arith, common_steps)

pub returns-then-is_some-3-clause-unchanged : goal.returns-then-is_some-3-clause-unchanged
returns-then-is_some-3-clause-unchanged c = grind (arith, common_steps)

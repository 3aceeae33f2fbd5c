use Rattle.std.proofs.Common.{arith}
use Rattle.std.proofs.lemmas.Grind.{common_steps}
use Rattle.promql_ast.proofs.layout.pretty.AnyPrettier.needs_split.Goals as goal

pub returns-else-not-is_leaf-clause-split : goal.returns-else-not-is_leaf-clause-split
returns-else-not-is_leaf-clause-split c = grind (arith, common_steps)

pub returns-then-not-is_leaf-clause-split : goal.returns-then-not-is_leaf-clause-split
returns-then-not-is_leaf-clause-split c = grind (arith, common_steps)

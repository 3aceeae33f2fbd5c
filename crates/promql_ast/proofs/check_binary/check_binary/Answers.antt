use Rattle.std.proofs.Common.{arith}
use Rattle.std.proofs.lemmas.Grind.{common_steps}
use Rattle.promql_ast.proofs.check_binary.check_binary.Goals as goal

pub returns-then-is_arithmetic-clause-check_tree : goal.returns-then-is_arithmetic-clause-check_tree
returns-then-is_arithmetic-clause-check_tree c = grind (arith, common_steps)

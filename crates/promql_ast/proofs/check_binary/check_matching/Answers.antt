use Rattle.std.proofs.Common.{arith}
use Rattle.std.proofs.lemmas.Grind.{common_steps}
use Rattle.promql_ast.proofs.check_binary.check_matching.Goals as goal

pub returns-clause-check_tree : goal.returns-clause-check_tree
returns-clause-check_tree c = grind (arith, common_steps)

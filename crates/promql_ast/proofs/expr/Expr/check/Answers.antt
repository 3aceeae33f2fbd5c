use Rattle.std.proofs.Common.{arith}
use Rattle.std.proofs.lemmas.Grind.{common_steps}
use Rattle.promql_ast.proofs.nodes.NodeParts.{tree_of_aggregate, tree_of_call}
use Rattle.promql_ast.proofs.expr.Expr.check.Goals as goal

pub returns-in-Aggregate-clause-check_tree : goal.returns-in-Aggregate-clause-check_tree
returns-in-Aggregate-clause-check_tree c = grind (arith, tree_of_aggregate)

pub returns-in-Aggregate-clause-kept : goal.returns-in-Aggregate-clause-kept
returns-in-Aggregate-clause-kept c = grind (arith, common_steps)

pub returns-in-Unary-clause-check_tree : goal.returns-in-Unary-clause-check_tree
returns-in-Unary-clause-check_tree c = grind (arith, common_steps)

pub returns-in-Unary-clause-kept : goal.returns-in-Unary-clause-kept
returns-in-Unary-clause-kept c = grind (arith, common_steps)

pub returns-in-Binary-clause-check_tree : goal.returns-in-Binary-clause-check_tree
returns-in-Binary-clause-check_tree c = grind (arith, common_steps)

pub returns-in-Binary-clause-kept : goal.returns-in-Binary-clause-kept
returns-in-Binary-clause-kept c = grind (arith, common_steps)

pub returns-in-Subquery-clause-check_tree : goal.returns-in-Subquery-clause-check_tree
returns-in-Subquery-clause-check_tree c = grind (arith, common_steps)

pub returns-in-Subquery-clause-kept : goal.returns-in-Subquery-clause-kept
returns-in-Subquery-clause-kept c = grind (arith, common_steps)

pub returns-in-VectorSelector-clause-check_tree : goal.returns-in-VectorSelector-clause-check_tree
returns-in-VectorSelector-clause-check_tree c = grind (arith, common_steps)

pub returns-in-VectorSelector-clause-kept : goal.returns-in-VectorSelector-clause-kept
returns-in-VectorSelector-clause-kept c = grind (arith, common_steps)

pub returns-in-Call-clause-check_tree : goal.returns-in-Call-clause-check_tree
returns-in-Call-clause-check_tree c = grind (arith, tree_of_call)

pub returns-in-Call-clause-kept : goal.returns-in-Call-clause-kept
returns-in-Call-clause-kept c = grind (arith, common_steps)

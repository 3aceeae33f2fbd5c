use Rattle.std.proofs.Common.{arith}
use Rattle.std.proofs.lemmas.Grind.{common_steps}
use Rattle.promql_ast.proofs.nodes.NodeParts.{tree_of_aggregate, tree_of_call, tree_of_extension}
use Rattle.promql_ast.proofs.+copy.Goals as goal

pub aggregate::AggregateExpr::try_clone-returns : goal.aggregate::AggregateExpr::try_clone-returns
aggregate::AggregateExpr::try_clone-returns t c = grind (arith, common_steps)

pub binary::BinaryExpr::try_clone-returns : goal.binary::BinaryExpr::try_clone-returns
binary::BinaryExpr::try_clone-returns t c = grind (arith, common_steps)

pub call::Call::try_clone-returns : goal.call::Call::try_clone-returns
call::Call::try_clone-returns t c = grind (arith, common_steps)

pub call::FunctionArgs::try_clone-loop-arg-preserved : goal.call::FunctionArgs::try_clone-loop-arg-preserved
call::FunctionArgs::try_clone-loop-arg-preserved t c = grind (arith, common_steps)

pub extension::Extension::try_clone-returns : goal.extension::Extension::try_clone-returns
extension::Extension::try_clone-returns t c = grind (arith, common_steps)

pub extension::clone_children-loop-child-preserved : goal.extension::clone_children-loop-child-preserved
extension::clone_children-loop-child-preserved t c = grind (arith, common_steps)

pub copy::clone_aggregate-returns : goal.copy::clone_aggregate-returns
copy::clone_aggregate-returns t c = grind (arith, tree_of_aggregate)

pub copy::clone_call-returns : goal.copy::clone_call-returns
copy::clone_call-returns t c = grind (arith, tree_of_call)

pub copy::clone_extension-returns : goal.copy::clone_extension-returns
copy::clone_extension-returns t c = grind (arith, tree_of_extension)

pub copy::clone_box-returns-in-Call : goal.copy::clone_box-returns-in-Call
copy::clone_box-returns-in-Call t c = grind (arith, tree_of_call)

pub copy::clone_box-returns-in-Extension : goal.copy::clone_box-returns-in-Extension
copy::clone_box-returns-in-Extension t c = grind (arith, tree_of_extension)

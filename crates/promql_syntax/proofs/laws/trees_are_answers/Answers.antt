use Rattle.promql_syntax.proofs.readback.ServedTrees.{tree_is_served}
use Rattle.promql_syntax.proofs.laws.trees_are_answers.Goals as goal

pub returns : goal.returns
returns c = tree_is_served

use Rattle.promql_ast.proofs.laws.leaves_by_height.Goals as goal
use Rattle.promql_ast.proofs.nodes.Leaves.{leaf_is}

pub returns : goal.returns
returns c = leaf_is

use Rattle.promql_ast.proofs.laws.number_literals.Goals as goal
use Rattle.promql_ast.proofs.nodes.Leaves.{negated_is, scalar_is}

pub returns : goal.returns
returns c = record { scalars = scalar_is; negated = negated_is }

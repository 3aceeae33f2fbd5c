use Rattle.promql_ast.proofs.checking.GivenTimes.{miscounted, with_one, with_two, without_arguments}
use Rattle.promql_ast.proofs.laws.aggregations_have_their_arguments.Goals as goal

pub returns : goal.returns
returns c = record { none = without_arguments; one = with_one; two = with_two; others = miscounted }

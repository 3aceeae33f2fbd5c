use Rattle.std.proofs.Common.{arith}
use Rattle.promql_syntax.proofs.parsing.Collecting.{rest_length}
use Rattle.promql_syntax.proofs.laws.argument_counts.Goals as goal

pub returns : goal.returns
returns c = λ ds. omega (arith, rest_length ds)

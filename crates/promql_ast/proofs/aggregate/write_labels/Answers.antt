use Rattle.std.proofs.Common.{arith}
use Rattle.promql_text.proofs.writing.AllOptions.{styled}
use Rattle.promql_ast.proofs.aggregate.write_labels.Goals as goal

pub returns : goal.returns
returns g c = grind (arith, styled)

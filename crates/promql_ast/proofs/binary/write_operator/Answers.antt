use Rattle.std.proofs.Common.{arith}
use Rattle.promql_text.proofs.writing.AllOptions.{styled}
use Rattle.promql_ast.proofs.binary.write_operator.Goals as goal

pub returns-2 : goal.returns-2
returns-2 g c = grind (arith, styled)

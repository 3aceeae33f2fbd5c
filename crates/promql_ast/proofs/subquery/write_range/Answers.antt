use Rattle.std.proofs.Common.{arith}
use Rattle.promql_text.proofs.writing.AllOptions.{styled}
use Rattle.promql_ast.proofs.subquery.write_range.Goals as goal

pub returns : goal.returns
returns g c = grind (arith, styled)

use Rattle.std.proofs.Common.{arith}
use Rattle.promql_text.proofs.writing.AllOptions.{styled, writes_at_plain}
use Rattle.promql_ast.proofs.matrix_selector.MatrixSelectorDisplay.fmt.Goals as goal

pub returns-clause-styled : goal.returns-clause-styled
returns-clause-styled g c = grind (arith, styled)

pub returns-clause-writes : goal.returns-clause-writes
returns-clause-writes g c = writes_at_plain g.W.Write.write_str_gives _ _ _ _ (returns-clause-styled g c)

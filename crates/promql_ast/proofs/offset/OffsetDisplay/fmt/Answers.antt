use Rattle.std.proofs.Common.{arith}
use Rattle.promql_text.proofs.writing.AllOptions.{styled, writes_at_plain}
use Rattle.promql_ast.proofs.offset.OffsetDisplay.fmt.Goals as goal

pub returns-in_ok-write_str-in-Neg-clause-styled : goal.returns-in_ok-write_str-in-Neg-clause-styled
returns-in_ok-write_str-in-Neg-clause-styled g c = grind (arith, styled)

pub returns-in_ok-write_str-in-Neg-clause-writes : goal.returns-in_ok-write_str-in-Neg-clause-writes
returns-in_ok-write_str-in-Neg-clause-writes g c = writes_at_plain g.W.Write.write_str_gives _ _ _ _ (returns-in_ok-write_str-in-Neg-clause-styled g c)

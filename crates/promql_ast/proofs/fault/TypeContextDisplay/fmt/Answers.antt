use Rattle.std.proofs.Common.{arith}
use Rattle.promql_text.proofs.writing.AllOptions.{styled, writes_at_plain}
use Rattle.promql_ast.proofs.fault.TypeContextDisplay.fmt.Goals as goal

pub returns-in_ok-write_str-in-CallOf-2-clause-styled : goal.returns-in_ok-write_str-in-CallOf-2-clause-styled
returns-in_ok-write_str-in-CallOf-2-clause-styled g c = grind (arith, styled)

pub returns-in_ok-write_str-in-CallOf-2-clause-writes : goal.returns-in_ok-write_str-in-CallOf-2-clause-writes
returns-in_ok-write_str-in-CallOf-2-clause-writes g c = writes_at_plain g.W.Write.write_str_gives _ _ _ _ (returns-in_ok-write_str-in-CallOf-2-clause-styled g c)

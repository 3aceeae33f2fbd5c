use Rattle.std.proofs.Common.{arith}
use Rattle.promql_text.proofs.writing.AllOptions.{styled}
use Rattle.promql_ast.proofs.at_modifier.write_at.Goals as goal

pub returns-in_ok-write_str-in-Some : goal.returns-in_ok-write_str-in-Some
returns-in_ok-write_str-in-Some g c = grind (arith, styled)

use Rattle.promql_ast.specs.SameLaws.{moment_eq-Decides, shift_eq-Decides}
use Rattle.promql_ast.specs.Shifts.{moment_of, shift_of}
use Rattle.promql_ast.proofs.laws.equal_shifts.Goals as goal

pub returns : goal.returns
returns c = record { offset = λ a b. shift_eq-Decides (shift_of a) (shift_of b); at = λ a b. moment_eq-Decides (moment_of a) (moment_of b) }

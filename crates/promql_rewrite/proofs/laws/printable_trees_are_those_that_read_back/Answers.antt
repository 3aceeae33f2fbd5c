use Rattle.promql_rewrite.proofs.readback.Judging.{printed_line, read_back_printable}
use Rattle.promql_rewrite.proofs.laws.printable_trees_are_those_that_read_back.Goals as goal

pub returns : goal.returns
returns c = λ g t. (read_back_printable c.checked_trees_are_typed.ensures g t, printed_line g t)

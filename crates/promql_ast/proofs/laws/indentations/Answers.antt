use Rattle.promql_ast.proofs.laws.indentations.Goals as goal
use Rattle.promql_ast.proofs.layouts.Indentations.{indent_is, no_space_first, spaces_before}

pub returns : goal.returns
returns c = record { spaces = indent_is; before = spaces_before; without = no_space_first }

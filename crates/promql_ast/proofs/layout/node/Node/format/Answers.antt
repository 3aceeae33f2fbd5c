use Rattle.std.proofs.Common.{arith}
use Rattle.promql_ast.proofs.layouts.LayoutsBy.{lines_deepest_all, lines_laid_by}
use Rattle.promql_ast.proofs.layout.node.Node.format.Goals as goal

pub returns-clause-text : goal.returns-clause-text
returns-clause-text c = grind (arith, lines_laid_by)

pub returns-clause-fits : goal.returns-clause-fits
returns-clause-fits c = grind (arith, lines_deepest_all)

pub returns-in_err-write_lines-clause-wide : goal.returns-in_err-write_lines-clause-wide
returns-in_err-write_lines-clause-wide c = grind (arith, lines_deepest_all)

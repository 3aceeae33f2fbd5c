use Rattle.std.proofs.Common.{arith}
use Rattle.promql_ast.proofs.layouts.LayoutsBy.{deepest_all, laid_by}
use Rattle.promql_ast.proofs.layout.node.Node.pretty.Goals as goal

pub returns-clause-text : goal.returns-clause-text
returns-clause-text c = grind (arith, laid_by)

pub returns-clause-fits : goal.returns-clause-fits
returns-clause-fits c = grind (arith, deepest_all)

pub returns-in_err-write_layout-clause-wide : goal.returns-in_err-write_layout-clause-wide
returns-in_err-write_layout-clause-wide c = grind (arith, deepest_all)

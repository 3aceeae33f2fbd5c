use Rattle.promql_ast.proofs.checking.BelowRoots.{below_root}
use Rattle.promql_ast.proofs.laws.children_are_below.Goals as goal

pub returns : goal.returns
returns c = below_root

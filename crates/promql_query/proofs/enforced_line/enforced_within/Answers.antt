use Rattle.promql_ast.specs.View.{tree_of}
use Rattle.promql_query.proofs.enforced_line.enforced_within.Goals as goal

pub returns-in-Err-clause-err : goal.returns-in-Err-clause-err
returns-in-Err-clause-err c = c.in-Err.ensures.fault (tree_of c.args.expr)

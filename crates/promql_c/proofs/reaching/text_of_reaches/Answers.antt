use Rattle.promql_ast.specs.View.{tree_of}
use Rattle.promql_when.specs.Reached.{evaluation, reach_overflow}
use Rattle.promql_c.proofs.reaching.text_of_reaches.Goals as goal

pub returns-in-Err : goal.returns-in-Err
returns-in-Err c = c.error_of.ensures (reach_overflow c.args.times.now (tree_of c.args.expr.now) evaluation) c.in-Err.ensures.error

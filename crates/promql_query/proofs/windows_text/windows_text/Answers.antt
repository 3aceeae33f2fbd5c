use Rattle.promql_ast.specs.View.{tree_of}
use Rattle.promql_when.specs.Reads.{overflow}
use Rattle.promql_when.specs.Windows.{asked}
use Rattle.promql_query.proofs.windows_text.windows_text.Goals as goal

pub returns : goal.returns
returns c = λ answer. c.error_of.ensures (overflow c.args.times.now (tree_of c.args.expr.now) (asked c.args.times.now)) c.in-Err.ensures.error

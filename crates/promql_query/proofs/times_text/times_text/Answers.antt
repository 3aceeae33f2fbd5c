use Rattle.std.proofs.Common.{inl}
use Rattle.promql_ast.specs.View.{tree_of}
use Rattle.promql_when.specs.Reads.{overflow}
use Rattle.promql_when.specs.Windows.{asked}
use Rattle.promql_query.proofs.times_text.times_text.Goals as goal

pub returns : goal.returns
returns c = λ of_tree. let ts = c.args.times.now in inl (c.error_of.ensures (overflow ts (tree_of c.args.expr.now) (asked ts)) c.in-Err.ensures.error)

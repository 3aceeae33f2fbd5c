use Rattle.promql_ast.specs.View.{tree_of}
use Rattle.promql_run.proofs.NoExtensions.{answers_are_plain}
use Rattle.promql_c.proofs.printing.PrintCallTreeCall.tell.Goals as goal

pub print_in-requires-clause-plain : goal.print_in-requires-clause-plain
print_in-requires-clause-plain c = answers_are_plain c.args.query.now (tree_of c.args.expr.now) c.requires.1

use Rattle.promql_ast.specs.View.{tree_of}
use Rattle.promql_run.proofs.NoExtensions.{answers_are_plain}
use Rattle.promql_programs.proofs.print_task.PrintTask.answer.Goals as goal

pub print_line-line-requires-clause-plain : goal.print_line-line-requires-clause-plain
print_line-line-requires-clause-plain c = answers_are_plain c.args.query.now (tree_of c.in-Ok.expr) c.in-Ok.ensures.answer

use Rattle.std.proofs.Common.{string_bytes}
use Rattle.promql_programs.proofs.WarnedAnswers.{no_warning}
use Rattle.promql_programs.proofs.reports.warning_of.Goals as goal

pub returns-in-Rules : goal.returns-in-Rules
returns-in-Rules c = no_warning c.args.source.now.is_file (string_bytes c.args.source.now.prefix) c.args.target c.args.answer.now c.in-Rules.is

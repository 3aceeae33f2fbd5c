use Rattle.std.proofs.Common.{refl, string_bytes}
use Rattle.promql_programs.proofs.WarnedAnswers.{silent}
use Rattle.promql_programs.proofs.job.print.Goals as goal

pub returns-else-status-eq5 : goal.returns-else-status-eq5
returns-else-status-eq5 g c =
    silent g.E.Write.contents c.args.source.now.is_file (string_bytes c.args.source.now.prefix) g.R.Read.remaining g.W.Write.contents _ _ _
    _ _ _ _ _ _ _ _ c.answer_query-status.ensures.answers (λ zero. refl)

use Rattle.std.proofs.Common.{ap, sym, ◌∙◌}
use Rattle.std.specs.Prelude.{Err}
use Rattle.promql_run.proofs.Statuses.{five_is_write}
use Rattle.promql_programs.proofs.batch_job.answer_lines.Goals as goal

pub returns-after-not-is_closed-clause-begun : goal.returns-after-not-is_closed-clause-begun
returns-after-not-is_closed-clause-begun g c = λ five. c.in-Err.ensures.begun (ap Err (five_is_write c.in-Err.error (sym c.number.ensures ∙ five)))

use Rattle.std.proofs.Common.{false}
use Rattle.promql_run.proofs.KnownBytes.{always_on_err}
use Rattle.promql_query.proofs.MemoryAnswer.{memory_answer, memory_is_answered}
use Rattle.promql_query.proofs.batch.write_answer.Goals as goal

pub returns-in_err-write_line-in-Err-clause-begun : goal.returns-in_err-write_line-in-Err-clause-begun
returns-in_err-write_line-in-Err-clause-begun g c =
    always_on_err c.from_residual-in_err-write_line-in-Err.result
    (memory_answer, false, memory_is_answered c.args.settings.now c.args.line.now, c.in_err-write_line-in-Err.ensures.begun)

pub returns-in_ok-write_line-in-Err-clause-ok : goal.returns-in_ok-write_line-in-Err-clause-ok
returns-in_ok-write_line-in-Err-clause-ok g c =
    (memory_answer, memory_is_answered c.args.settings.now c.args.line.now, c.in_ok-write_line-in-Err.ensures.ok)

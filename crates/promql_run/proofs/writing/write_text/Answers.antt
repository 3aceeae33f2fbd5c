use Rattle.promql_run.proofs.KnownBytes.{always_on_err, whole_begun}
use Rattle.promql_run.proofs.writing.write_text.Goals as goal

pub returns-clause-begun : goal.returns-clause-begun
returns-clause-begun g c = always_on_err c.flush.result (whole_begun _ _ _ c.args.text.now c.in_ok-write_whole.ensures.ok c.flush.ensures.bytes)

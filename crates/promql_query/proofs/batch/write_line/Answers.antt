use Rattle.std.proofs.Common.{[], ◌∷◌}
use Rattle.std.proofs.lemmas.Result.{on_err_weaker}
use Rattle.promql_run.proofs.KnownBytes.{always_on_err, beginning_after, beginning_longer}
use Rattle.promql_query.proofs.batch.write_line.Goals as goal

pub returns-in_err-write_whole-clause-begun : goal.returns-in_err-write_whole-clause-begun
returns-in_err-write_whole-clause-begun g c =
    always_on_err c.from_residual.result (beginning_longer _ _ c.args.text.now (10 ∷ []) c.in_err-write_whole.ensures.begun)

pub returns-clause-begun : goal.returns-clause-begun
returns-clause-begun g c =
    on_err_weaker c.write_whole-2.result (beginning_after _ _ _ c.args.text.now (10 ∷ []) c.in_ok-write_whole.ensures.ok) c.write_whole-2.ensures.begun

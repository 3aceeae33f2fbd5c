use Rattle.std.proofs.Common.{◌∙◌, drop, refl}
use Rattle.std.proofs.lemmas.List.{take_rest}
use Rattle.promql_run.proofs.KnownBytes.{begun_of, kept_partly, written_more, write_kept}
use Rattle.promql_run.proofs.writing.write_whole.Goals as goal

pub loop-rest-preserved : goal.loop-rest-preserved
loop-rest-preserved g c = record {
  kept = write_kept _ _ _ c.loop-rest.rest.now c.in-Ok.ensures.failed c.in-Ok.count-test.1 ∙ c.loop-rest.invariant.kept;
  goes = written_more _ _ _ _ _ _ _ c.loop-rest.invariant.goes c.in-Ok.ensures.bytes (take_rest c.loop-rest.rest.now c.in-Ok.count);
}

pub returns-in-Ok-eq0-clause-begun : goal.returns-in-Ok-eq0-clause-begun
returns-in-Ok-eq0-clause-begun g c =
    begun_of _ _ _ _ (written_more _ _ _ _ _ (drop c.in-Ok-eq0.field-0 c.loop-rest.rest.now) c.in-Ok-eq0.field-0 c.loop-rest.invariant.goes c.in-Ok-eq0.ensures.bytes refl)

pub returns-in-Err-clause-begun : goal.returns-in-Err-clause-begun
returns-in-Err-clause-begun g c = begun_of _ _ _ _ (kept_partly _ _ _ _ _ c.loop-rest.invariant.goes c.in-Err.ensures.bytes)

use Rattle.std.proofs.Common.{◌≡◌}
use Rattle.promql_query.proofs.Batches.{Progress}
use Rattle.promql_query.proofs.batch.run_batch.Given as goal

abbrev pub invariant-lines : goal.invariant-lines
invariant-lines g l = record {
  quiet : l.writer.failed ≡ l.fn.writer.failed;
  heard : l.reader.failed ≡ l.fn.reader.failed;
  so_far : Progress l.settings (g.R.Read.remaining l.fn.reader.inner) (g.R.Read.remaining l.reader.inner)
      (g.W.Write.contents l.fn.writer.inner) (g.W.Write.contents l.writer.inner) l.all_ok;
}

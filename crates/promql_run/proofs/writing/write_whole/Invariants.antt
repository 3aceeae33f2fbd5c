use Rattle.std.proofs.Common.{◌≡◌, length}
use Rattle.promql_run.proofs.KnownBytes.{IsPartlyWritten}
use Rattle.promql_run.proofs.writing.write_whole.Given as goal

abbrev pub invariant-loop-rest : goal.invariant-loop-rest
invariant-loop-rest g l = record {
  kept : l.writer.failed ≡ l.fn.writer.failed;
  goes : IsPartlyWritten (g.W.Write.contents l.fn.writer.inner) (g.W.Write.contents l.writer.inner) l.text l.rest;
}

abbrev pub decreases-loop-rest : goal.decreases-loop-rest
decreases-loop-rest g l = length l.rest

use Rattle.std.proofs.Common.{◌≡◌, ◌-◌, ◌^◌, vec_len}
use Rattle.std.specs.Io.KnownBytes.{Consumes}
use Rattle.promql_run.proofs.reading.read_all.Given as goal

abbrev pub invariant-loop-count : goal.invariant-loop-count
invariant-loop-count g l = record {
  kept : l.reader.failed ≡ l.fn.reader.failed;
  goes : Consumes (g.R.Read.remaining l.fn.reader.inner) (g.R.Read.remaining l.reader.inner) l.bytes.items;
}

abbrev pub decreases-loop-count : goal.decreases-loop-count
decreases-loop-count g l = 2 ^ 64 - vec_len l.bytes

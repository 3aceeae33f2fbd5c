use Rattle.std.specs.Prelude.{Some}
use Rattle.promql_when.specs.Reads.{windows}
use Rattle.promql_when.specs.Windows.{instant}
use Rattle.promql_when.proofs.LastReads.{up_to_last}
use Rattle.promql_when.proofs.Orders.{le_same}
use Rattle.promql_when.proofs.WithinWindows.{inside_windows}
use Rattle.promql_when.proofs.laws.nothing_is_read_after_the_last.Goals as goal

pub returns : goal.returns
returns c = λ ts t x sample is_one read.
    up_to_last is_one sample (windows ts t (Some (instant x))) (inside_windows is_one sample ts t (instant x) x (le_same x) (le_same x) read)

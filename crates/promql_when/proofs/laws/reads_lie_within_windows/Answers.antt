use Rattle.std.proofs.Common.{◌∙◌, ap}
use Rattle.promql_when.specs.Reads.{lies_within, windows}
use Rattle.promql_when.proofs.AskedTimes.{asked_above, asked_below, asked_is, whole}
use Rattle.promql_when.proofs.WithinWindows.{inside_windows}
use Rattle.promql_when.proofs.laws.reads_lie_within_windows.Goals as goal

pub returns : goal.returns
returns c = λ ts t x is is_one sample read.
    ap (λ w. lies_within is_one sample (windows ts t w)) (asked_is ts x is)
    ∙ inside_windows is_one sample ts t (whole ts) x (asked_above ts x is) (asked_below ts x is) read

use Rattle.promql_when.proofs.PinnedReads.{pinned_reads}
use Rattle.promql_when.proofs.laws.pinned_queries_read_the_same.Goals as goal

pub returns : goal.returns
returns c = λ ts start end step t x. pinned_reads ts start end step t x

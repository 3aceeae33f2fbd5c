use Rattle.promql_text.proofs.durations.ReadsDuration.{duration_reads}
use Rattle.promql_text.proofs.laws.durations_read_back.Goals as goal

pub returns : goal.returns
returns c = duration_reads

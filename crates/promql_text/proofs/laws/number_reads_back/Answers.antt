use Rattle.promql_text.proofs.numbers.ReadsBack.{reads_back}
use Rattle.promql_text.proofs.laws.number_reads_back.Goals as goal

pub returns : goal.returns
returns c = reads_back

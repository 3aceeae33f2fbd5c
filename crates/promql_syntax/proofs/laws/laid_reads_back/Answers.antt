use Rattle.promql_syntax.proofs.readback.CanonicalTexts.{laid_reads_back, text_reads_back}
use Rattle.promql_syntax.proofs.laws.laid_reads_back.Goals as goal

pub returns : goal.returns
returns c = record { line = text_reads_back; lines = laid_reads_back }

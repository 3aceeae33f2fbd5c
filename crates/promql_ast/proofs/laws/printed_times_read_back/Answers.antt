use Rattle.promql_ast.proofs.normal_form.PrintedMoments.{size_reads, time_reads, time_text_split}
use Rattle.promql_ast.proofs.laws.printed_times_read_back.Goals as goal

pub returns : goal.returns
returns c = record { whole = time_reads; sign = time_text_split; unsigned = size_reads }

use Rattle.promql_when.proofs.ConstantReads.{same_reads}
use Rattle.promql_when.proofs.laws.constant_queries_read_the_same.Goals as goal

pub returns : goal.returns
returns c = λ ts t x y is. same_reads ts x y t is

use Rattle.promql_meaning.proofs.SeenConstant.{same_seen}
use Rattle.promql_meaning.proofs.laws.constant_queries_see_the_same.Goals as goal

pub returns : goal.returns
returns c = λ ts s t x y is. same_seen ts s x y t is

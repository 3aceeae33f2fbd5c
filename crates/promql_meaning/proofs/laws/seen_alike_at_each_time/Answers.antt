use Rattle.std.proofs.Common.{ap}
use Rattle.promql_meaning.specs.SeenAt.{at_time}
use Rattle.promql_meaning.proofs.laws.seen_alike_at_each_time.Goals as goal

pub returns : goal.returns
returns c = λ r s t u same ts x. ap (λ e. at_time ts e x) same

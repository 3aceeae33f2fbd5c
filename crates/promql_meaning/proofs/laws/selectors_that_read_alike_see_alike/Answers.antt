use Rattle.promql_meaning.proofs.SeenMapped.{read_alike}
use Rattle.promql_meaning.proofs.laws.selectors_that_read_alike_see_alike.Goals as goal

pub returns : goal.returns
returns c = read_alike

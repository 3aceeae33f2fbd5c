use Rattle.promql_syntax.proofs.readback.CanonicalTexts.{prints_alike}
use Rattle.promql_syntax.proofs.laws.prints_alike.Goals as goal

pub returns : goal.returns
returns c = prints_alike

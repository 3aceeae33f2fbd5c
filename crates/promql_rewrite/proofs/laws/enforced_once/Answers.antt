use Rattle.promql_rewrite.proofs.enforcement.EnforcedTwice.{enforced_twice}
use Rattle.promql_rewrite.proofs.laws.enforced_once.Goals as goal

pub returns : goal.returns
returns c = enforced_twice

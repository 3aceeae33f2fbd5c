use Rattle.promql_when.proofs.WithinReach.{within_reach}
use Rattle.promql_when.proofs.laws.reads_lie_within_reach.Goals as goal

pub returns : goal.returns
returns c = within_reach

use Rattle.promql_when.proofs.PinnedTypes.{same_type, same_typed}
use Rattle.promql_when.proofs.laws.pinned_queries_are_typed.Goals as goal

pub returns : goal.returns
returns c = record { types = same_type; typed = same_typed }

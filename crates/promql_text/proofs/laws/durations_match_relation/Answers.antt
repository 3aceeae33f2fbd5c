use Rattle.promql_text.proofs.durations.DurationRelation.{durations_told}
use Rattle.promql_text.proofs.laws.durations_match_relation.Goals as goal

pub returns : goal.returns
returns c = durations_told

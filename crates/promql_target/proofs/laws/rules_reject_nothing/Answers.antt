use Rattle.promql_target.proofs.NoRefusals.{no_refusal}
use Rattle.promql_target.proofs.laws.rules_reject_nothing.Goals as goal

pub returns : goal.returns
returns c = no_refusal

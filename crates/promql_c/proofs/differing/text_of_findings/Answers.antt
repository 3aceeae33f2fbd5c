use Rattle.std.proofs.Common.{ap, ◌∙◌}
use Rattle.serde_json.specs.Written.{has_float}
use Rattle.promql_c.proofs.FiniteCollected.{findings_no_float}
use Rattle.promql_c.proofs.differing.text_of_findings.Goals as goal

pub value_text-requires : goal.value_text-requires
value_text-requires c = ap has_float c.in_ok-value.ensures.2 ∙ findings_no_float c.in_ok-value.ensures.0

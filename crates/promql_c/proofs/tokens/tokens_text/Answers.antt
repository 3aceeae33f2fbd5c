use Rattle.std.proofs.Common.{ap, ◌∙◌}
use Rattle.serde_json.specs.Written.{has_float}
use Rattle.promql_c.proofs.FiniteCollected.{tokens_no_float}
use Rattle.promql_c.proofs.tokens.tokens_text.Goals as goal

pub value_text-requires : goal.value_text-requires
value_text-requires c = ap has_float c.in_ok-value.ensures ∙ tokens_no_float c.as_slice.result.now

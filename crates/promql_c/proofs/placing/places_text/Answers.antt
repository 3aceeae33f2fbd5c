use Rattle.std.proofs.Common.{ap, ◌∙◌}
use Rattle.serde_json.specs.Written.{has_float}
use Rattle.promql_c.proofs.FiniteCollected.{places_no_float}
use Rattle.promql_c.proofs.placing.places_text.Goals as goal

pub value_text-requires : goal.value_text-requires
value_text-requires c = ap has_float c.in_ok-value.ensures ∙ places_no_float c.args.places.now

use Rattle.std.proofs.Common.{ap, ◌∙◌}
use Rattle.serde_json.specs.Written.{has_float}
use Rattle.promql_query.proofs.FiniteWindows.{last_no_float}
use Rattle.promql_query.proofs.windows_text.last_text.Goals as goal

pub value_text-requires : goal.value_text-requires
value_text-requires c = ap has_float c.time_value.ensures ∙ last_no_float c.args.last

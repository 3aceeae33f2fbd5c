use Rattle.std.proofs.Common.{ap, ◌∙◌}
use Rattle.serde_json.specs.Written.{has_float}
use Rattle.promql_when.specs.ReachFound.{reaches_of}
use Rattle.promql_c.proofs.FiniteReaches.{reaches_no_float}
use Rattle.promql_c.proofs.reaching.reaches_text.Goals as goal

pub value_text-requires : goal.value_text-requires
value_text-requires c = ap has_float c.in_ok-value.ensures ∙ reaches_no_float (reaches_of c.args.found.now)

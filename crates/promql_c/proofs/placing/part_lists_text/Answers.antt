use Rattle.std.proofs.Common.{ap, map, ◌∙◌}
use Rattle.serde_json.specs.Written.{has_float}
use Rattle.promql_c.proofs.FiniteCollected.{parts_no_float}
use Rattle.promql_c.proofs.placing.part_lists_text.Goals as goal

pub value_text-requires : goal.value_text-requires
value_text-requires c = ap has_float c.in_ok-value.ensures ∙ parts_no_float (map (λ ps. ps.items) c.args.lists.now)

use Rattle.std.proofs.Common.{◌≡◌, length, map, string_bytes}
use Rattle.promql_label.proofs.order.LabelRows.{meets}
use Rattle.promql_label.proofs.common_labels.is_any_among.Given as goal

-- one of the labels is among the others exactly if one is among the rest
abbrev pub invariant-parts : goal.invariant-parts
invariant-parts l = meets l.rest (map string_bytes l.labels) ≡ meets l.others (map string_bytes l.labels)

abbrev pub decreases-parts : goal.decreases-parts
decreases-parts l = length l.rest

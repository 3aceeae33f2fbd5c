use Rattle.std.proofs.Common.{◌≡◌, drop, map, string_bytes}
use Rattle.std.specs.List.{list_any}
use Rattle.promql_label.specs.LabelRows.{label_texts}
use Rattle.promql_label.specs.Labels.{is_among}
use Rattle.promql_label.proofs.common_labels.is_any_in_order.Given as goal

-- one of the labels is in the row exactly if one of those that are left is
abbrev pub invariant-search : goal.invariant-search
invariant-search l =
    list_any (is_among (label_texts l.row)) (map string_bytes (drop l.label-index l.labels))
    ≡ list_any (is_among (label_texts l.row)) (map string_bytes l.labels)

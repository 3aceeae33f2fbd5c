use Rattle.std.proofs.Common.{◌∙◌, map, string_bytes}
use Rattle.promql_label.proofs.order.LabelRows.{sorted_meets}
use Rattle.promql_label.proofs.common_labels.is_any_in_row.Goals as goal

pub returns : goal.returns
returns c =
    c.is_any_in_order.ensures
    ∙ sorted_meets c.fill.new.row c.sort_unstable.new.self c.args.part.now (map string_bytes c.args.labels.now) c.sort_unstable.ensures.permutation c.fill.ensures

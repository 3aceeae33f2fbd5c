use Rattle.std.proofs.Common.{◌∙◌, ap, string_bytes, sym, arith}
use Rattle.promql_label.specs.LabelRows.{label_texts}
use Rattle.promql_label.specs.Labels.{is_among}
use Rattle.promql_label.proofs.order.LabelRows.{label_met, label_missed, labels_end}
use Rattle.promql_label.proofs.order.PrintedTexts.{map_drop_all, map_drop_step}
use Rattle.promql_label.proofs.common_labels.is_any_in_order.Goals as goal

pub returns-then-is_in_row : goal.returns-then-is_in_row
returns-then-is_in_row c =
    let texts = label_texts c.args.row.now in
    let label = c.label-item.result in
    let next = map_drop_step string_bytes c.args.labels.now c.search.label-index label c.search-test.true c.label-item.is in
    label_met (is_among texts) _ (string_bytes label) _ _ next (ap (is_among texts) (sym c.as_str.ensures.value) ∙ sym c.is_in_row.ensures ∙ c.if-is_in_row.true) c.search.invariant

pub search-preserved : goal.search-preserved
search-preserved c =
    let texts = label_texts c.args.row.now in
    let label = c.label-item.result in
    let next = map_drop_step string_bytes c.args.labels.now c.search.label-index label c.search-test.true c.label-item.is in
    label_missed (is_among texts) _ (string_bytes label) _ _ next (ap (is_among texts) (sym c.as_str.ensures.value) ∙ sym c.is_in_row.ensures ∙ c.if-is_in_row.false) c.search.invariant

pub returns : goal.returns
returns c =
    labels_end (is_among (label_texts c.args.row.now)) _ _ (map_drop_all string_bytes c.args.labels.now c.search.label-index (omega arith)) c.search.invariant

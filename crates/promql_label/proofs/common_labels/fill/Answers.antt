use Rattle.std.proofs.Common.{◌∙◌, ap, length-set, map, string_bytes, sym, take_all, arith}
use Rattle.promql_label.specs.LabelRows.{label_texts}
use Rattle.promql_label.proofs.order.LabelRows.{text_more}
use Rattle.promql_label.proofs.common_labels.fill.Goals as goal

pub texts-preserved : goal.texts-preserved
texts-preserved c =
    let so_far = c.texts.invariant in
    let text = c.as_str.result in
    let label = c.index-labels-i in
    record {
      len = length-set c.texts.row c.texts.i text ∙ so_far.len;
      texts = text_more c.texts.row c.args.labels.now c.texts.i text label.result (omega arith) so_far.len label.is c.as_str.ensures.value so_far.texts;
    }

pub returns : goal.returns
returns c =
    let so_far = c.texts.invariant in
    let len = so_far.len in
    sym (ap label_texts (take_all c.texts.i c.texts.row (omega (arith, len))))
    ∙ so_far.texts
    ∙ ap (map string_bytes) (take_all c.texts.i c.args.labels.now (omega arith))

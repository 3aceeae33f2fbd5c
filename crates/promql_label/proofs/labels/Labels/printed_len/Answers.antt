use Rattle.std.proofs.Common.{◌∙◌, codes, string_bytes, map, ap}
use Rattle.promql_text.specs.Texts.{joined_text}
use Rattle.promql_text.specs.PrintedLen.{printed_len}
use Rattle.promql_text.proofs.writing.Joins.{join_end_of}
use Rattle.promql_text.proofs.writing.PrintedLengths.{joined_len_next}
use Rattle.promql_label.specs.Labels.{label_text}
use Rattle.promql_label.proofs.labels.Labels.printed_len.Goals as goal

pub loop-i-preserved : goal.loop-i-preserved
loop-i-preserved c =
    joined_len_next (λ label. label_text (string_bytes label)) (codes ", ") c.deref-label-items.result.now c.loop-i.i c.label-item.result _ _ _ _ _ c.loop-i-test.true c.label-item.is
    c.loop-i.invariant c.separator_printed_len.ensures c.saturating_add.ensures (c.label_len.ensures ∙ ap (λ label. printed_len (label_text label)) c.as_str.ensures.value) c.saturating_add-total.ensures

pub returns : goal.returns
returns c =
    c.loop-i.invariant ∙ ap printed_len (
    join_end_of label_text string_bytes (codes ", ") c.deref-label-items.result.now c.loop-i.i c.loop-i-test.false
    ∙ ap (λ labels. joined_text (codes ", ") (map label_text (map string_bytes labels))) c.deref-label-items.ensures.value)

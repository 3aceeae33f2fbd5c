use Rattle.std.proofs.Common.{◌∙◌, eqb-true, length, map, string_bytes, sym}
use Rattle.promql_label.proofs.order.LabelRows.{nothing_met, part_met, part_missed}
use Rattle.promql_label.proofs.common_labels.is_any_among.Goals as goal

pub returns-then-is_any_in_part : goal.returns-then-is_any_in_part
returns-then-is_any_in_part c =
    part_met c.parts.rest.now c.split_at.result.0.now c.split_at.result.1.now (map string_bytes c.args.labels.now) _
    c.split_at.ensures.by_index.0 (sym c.is_any_in_part.ensures ∙ c.if-is_any_in_part.true) c.parts.invariant

pub parts-preserved : goal.parts-preserved
parts-preserved c =
    part_missed c.parts.rest.now c.split_at.result.0.now c.split_at.result.1.now (map string_bytes c.args.labels.now) _
    c.split_at.ensures.by_index.0 (sym c.is_any_in_part.ensures ∙ c.if-is_any_in_part.false) c.parts.invariant

pub returns : goal.returns
returns c =
    nothing_met c.parts.rest.now (map string_bytes c.args.labels.now) _ (eqb-true (length c.parts.rest.now) 0 (sym c.parts-test.ensures)) c.parts.invariant

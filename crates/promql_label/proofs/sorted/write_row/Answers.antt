use Rattle.std.proofs.Common.{◌++◌, refl, ap, arith}
use Rattle.std.proofs.Output.{has_written_styled_append}
use Rattle.promql_label.specs.NextText.{comma_after, text_of, texts_after}
use Rattle.promql_label.proofs.order.PrintedTexts.{map_drop_all, map_drop_step}
use Rattle.promql_text.proofs.writing.Writing.{writing_flush, writing_more, writing_start, writing_end}
use Rattle.promql_label.proofs.sorted.write_row.Goals as goal

pub row-init : goal.row-init
row-init g c = λ flush. writing_start g.W.Write.write_str_gives _ _ _ flush refl

pub row-preserved : goal.row-preserved
row-preserved g c = λ flush.
    let took = g.W.Write.write_str_gives in
    let matcher = c.matcher-item.result in
    let so_far = c.row.invariant flush in
    let next = map_drop_step (λ m. text_of m.now) c.args.row.now c.row.matcher-index matcher c.row-test.true c.matcher-item.is in
    let comma = c.in_ok-write_comma.ensures (writing_flush took _ _ _ _ so_far) refl in
    let both = has_written_styled_append _ _ _ _ _ _ comma (c.in_ok-fmt.ensures.styled comma.flush refl) in
    writing_more took _ _ _ _ (comma_after c.row.going ++ text_of matcher.now) _ _ so_far both (ap (texts_after c.row.going) next)

pub returns : goal.returns
returns g c = λ flush ok.
    writing_end g.W.Write.write_str_gives _ _ _ _ (c.row.invariant flush)
    (ap (texts_after c.row.going) (map_drop_all (λ m. text_of m.now) c.args.row.now c.row.matcher-index (omega arith)))

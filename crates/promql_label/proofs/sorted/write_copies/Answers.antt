use Rattle.std.proofs.Common.{◌++◌, true, refl, arith}
use Rattle.std.proofs.Output.{has_written_styled_append}
use Rattle.promql_label.specs.NextText.{comma_after, text_of}
use Rattle.promql_label.proofs.order.PrintedTexts.{no_times, one_time_less}
use Rattle.promql_text.proofs.writing.Writing.{writing_flush, writing_more, writing_start, writing_end}
use Rattle.promql_label.proofs.sorted.write_copies.Goals as goal

pub copies-init : goal.copies-init
copies-init g c = λ flush. writing_start g.W.Write.write_str_gives _ _ _ flush refl

pub copies-preserved : goal.copies-preserved
copies-preserved g c = λ flush.
    let took = g.W.Write.write_str_gives in
    let text = text_of c.args.matcher.now in
    let so_far = c.copies.invariant flush in
    let comma = c.in_ok-write_comma.ensures (writing_flush took _ _ _ _ so_far) refl in
    let both = has_written_styled_append _ _ _ _ _ _ comma (c.in_ok-fmt.ensures.styled comma.flush refl) in
    writing_more took _ _ _ _ (comma_after true ++ text) _ _ so_far both (one_time_less c.copies.left text (omega arith))

pub returns : goal.returns
returns g c = λ flush ok.
    writing_end g.W.Write.write_str_gives _ _ _ _ (c.copies.invariant flush) (no_times c.copies.left (text_of c.args.matcher.now) (omega arith))

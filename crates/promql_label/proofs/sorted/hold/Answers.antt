use Rattle.std.proofs.Common.{◌∙◌, ◌++◌, ◌+◌, ap, drop, length, sym, take, arith}
use Rattle.std.proofs.lemmas.List.{length-take-le}
use Rattle.promql_label.specs.NextText.{text_of}
use Rattle.promql_label.proofs.order.TextRows.{row_holds}
use Rattle.promql_label.proofs.sorted.hold.Goals as goal

pub returns-clause-held : goal.returns-clause-held
returns-clause-held c =
    let row = c.args.row.now in
    let last = c.min-last.result in
    let within = c.place_in-place.ensures.within in
    let size = length-take-le c.args.held row c.requires.within in
    let not_end = c.if-place-row.false in
    let holds_some = c.requires.within in
    row_holds (λ m. text_of m.now) row c.put.new.row c.args.held c.place_in-place.result last c.args.matcher
    c.requires.within (omega (arith, within, size)) not_end c.min-last.ensures (omega (arith, within, size, not_end, holds_some)) c.put.ensures
    ∙ ap (take (length (c.put.new.row ++ drop (last + 1) row))) (sym c.place_in-place.ensures.place)

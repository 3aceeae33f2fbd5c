use Rattle.std.proofs.Common.{drop}
use Rattle.std.specs.Fmt.{IsFlush}
use Rattle.promql_label.specs.NextText.{row_texts, texts_after}
use Rattle.promql_text.proofs.writing.Writing.{Writing}
use Rattle.promql_label.proofs.sorted.write_row.Given as goal

-- the matchers that are left are still to be written
abbrev pub invariant-row : goal.invariant-row
invariant-row g l =
    IsFlush l.initial.f
    → Writing g.W.Write.write_str_gives l.initial.f (texts_after l.started (row_texts l.row)) l.f
    (texts_after l.going (row_texts (drop l.matcher-index l.row)))

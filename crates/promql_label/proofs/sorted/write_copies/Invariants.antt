use Rattle.std.proofs.Common.{true}
use Rattle.std.specs.Fmt.{IsFlush}
use Rattle.promql_label.specs.NextText.{text_of, texts_after, times}
use Rattle.promql_text.proofs.writing.Writing.{Writing}
use Rattle.promql_label.proofs.sorted.write_copies.Given as goal

-- so many copies are still to be written
abbrev pub invariant-copies : goal.invariant-copies
invariant-copies g l =
    IsFlush l.initial.f
    → Writing g.W.Write.write_str_gives l.initial.f (texts_after true (times l.count (text_of l.matcher))) l.f
    (texts_after true (times l.left (text_of l.matcher)))

abbrev pub decreases-copies : goal.decreases-copies
decreases-copies g l = l.left

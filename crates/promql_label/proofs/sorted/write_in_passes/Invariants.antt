use Rattle.std.proofs.Common.{◌<◌, List, codes, length, map}
use Rattle.std.specs.Option.{is_some}
use Rattle.std.specs.Fmt.{IsFlush}
use Rattle.promql_label.specs.NextText.{text_of, text_of_some, texts_after}
use Rattle.promql_label.specs.SortedTexts.{sorted_texts}
use Rattle.promql_text.specs.Texts.{Text, joined_text}
use Rattle.promql_text.proofs.writing.Writing.{Writing}
use Rattle.promql_label.proofs.order.PrintedTexts.{IsLeft}
use Rattle.promql_label.proofs.sorted.write_in_passes.Given as goal

-- so many of the sorted texts are left, and are still to be written
abbrev pub invariant-passes : goal.invariant-passes
invariant-passes g l =
    (0 < length l.row)
    × ((rest : List Text)
    × (IsLeft (text_of_some l.last) l.left rest (sorted_texts (map text_of l.matchers))
    × (IsFlush l.initial.f
    → Writing g.W.Write.write_str_gives l.initial.f (joined_text (codes ",") (sorted_texts (map text_of l.matchers))) l.f
    (texts_after (is_some (text_of_some l.last)) rest))))

abbrev pub decreases-passes : goal.decreases-passes
decreases-passes g l = l.left

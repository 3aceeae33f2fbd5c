-- Labels in a set (private: nothing rests on believing it).
use Rattle.std.specs.Prelude.{Bool}
use Rattle.std.specs.BTreeSet.{BTreeSet, contains_by}
use Rattle.std.proofs.Common.{Bor}
use Rattle.promql_label.specs.SortedTexts.{text_order}
use Rattle.promql_text.specs.Texts.{Text}

-- the text is one of the set
abbrev pub has_text : BTreeSet (Bor Text) → Text → Bool
has_text s t = contains_by (λ (k : Bor Text). text_order t k.now) s

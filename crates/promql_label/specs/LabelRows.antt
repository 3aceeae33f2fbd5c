-- Labels in a row (private: nothing rests on believing it).
use Rattle.std.specs.Prelude.{List, map, IsSorted}
use Rattle.std.proofs.Common.{Bor}
use Rattle.promql_label.specs.SortedTexts.{text_order}
use Rattle.promql_text.specs.Texts.{Text}

-- the texts that the row holds
abbrev pub label_texts : List (Bor Text) → List Text
label_texts = map (λ s. s.now)

-- the row is in byte order
abbrev pub IsInOrder : List (Bor Text) → Type 0
IsInOrder row = IsSorted (λ (s t : Bor Text). text_order s.now t.now) row

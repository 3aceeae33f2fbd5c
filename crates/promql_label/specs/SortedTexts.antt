-- Texts in byte order (docs/reference/matchers.md, "Printed lists").
use Rattle.std.specs.Prelude.{List, [], ◌∷◌, if◌then◌else◌}
use Rattle.std.specs.Ordering.{nat_cmp, is_gt}
use Rattle.std.specs.Cmp.Lexicographic.{slice_cmp}
use Rattle.std.specs.declared.cmp.Ordering.{Ordering}
use Rattle.promql_text.specs.Texts.{Text}

-- the first byte in which two texts differ decides; a text comes before its continuations
abbrev pub text_order : Text → Text → Ordering
text_order s t = slice_cmp nat_cmp s t

-- sorted texts with one more, before the first that is no smaller
abbrev pub insert_text : Text → List Text → List Text
insert_text t [] = t ∷ []
insert_text t (u ∷ us) = if is_gt (text_order t u) then u ∷ insert_text t us else t ∷ u ∷ us

-- the texts in byte order, each as often as it is in the list
abbrev pub sorted_texts : List Text → List Text
sorted_texts [] = []
sorted_texts (t ∷ ts) = insert_text t (sorted_texts ts)

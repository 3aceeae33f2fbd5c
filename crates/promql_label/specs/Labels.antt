-- Lists of labels: docs/reference/matchers.md, "Labels".
use Rattle.std.specs.Prelude.{Bool, not, ◌&&◌, ◌||◌, if◌then◌else◌, List, [], ◌∷◌, map, filter, codes, string_bytes}
use Rattle.std.specs.List.{list_any}
use Rattle.std.specs.Str.{bytes_eq, str_eq_ignore_ascii_case}
use Rattle.promql_text.specs.Quoting.{quoted_text}
use Rattle.promql_token.specs.Classes.{is_label}
use Rattle.promql_label.specs.declared.labels.Labels.{Labels}
use Rattle.promql_text.specs.Texts.{Text, joined_text}

-- the labels, as texts
abbrev pub labels_of : Labels → List Text
labels_of x = map string_bytes x.labels.items

-- the text is one of the list
abbrev pub is_among : List Text → Text → Bool
is_among ls l = list_any (bytes_eq l) ls

-- each text of the list once, where it comes first
abbrev pub firsts : List Text → List Text
firsts [] = []
firsts (l ∷ ls) = l ∷ filter (λ k. not (bytes_eq l k)) (firsts ls)

-- "Common labels": those of the first list that the second has too, each once, in the order in which the first list has them first
abbrev pub common : List Text → List Text → List Text
common ls others = filter (is_among others) (firsts ls)

-- "Printed labels": `inf` and `nan`, in any case, would be read as numbers
abbrev pub is_number_word : Text → Bool
is_number_word l = str_eq_ignore_ascii_case l (codes "inf") || str_eq_ignore_ascii_case l (codes "nan")

-- "Printed labels": a label as it is, or quoted
abbrev pub label_text : Text → Text
label_text l = if is_label l && not (is_number_word l) then l else quoted_text l

abbrev pub labels_text : List Text → Text
labels_text ls = joined_text (codes ", ") (map label_text ls)

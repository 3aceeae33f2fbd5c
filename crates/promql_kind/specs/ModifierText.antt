-- How modifiers print (docs/reference/printing.md, "Modifiers"): each part with one space before it.
use Rattle.std.specs.Prelude.{Bool, not, ◌==◌, ◌||◌, if◌then◌else◌, [], ◌++◌, length, Option, Some, None, codes}
use Rattle.promql_text.specs.NumberText.{number_text}
use Rattle.promql_text.specs.declared.number.Number.{Number}
use Rattle.promql_label.specs.Labels.{labels_text}
use Rattle.promql_text.specs.Texts.{Text}
use Rattle.promql_kind.specs.Modifiers.{Clause, including, excluding, Cardinality, many_to_one, one_to_many, Fills, fills, Matching, matching, is_grouping, number_eq}

abbrev pub bool_text : Bool → Text
bool_text b = if b then codes " bool" else []

-- an empty list after `ignoring` prints only before a grouping
abbrev pub matched_text : Bool → Option Clause → Text
matched_text is_grouping None = []
matched_text is_grouping (Some (including ls)) = codes " on (" ++ (labels_text ls ++ codes ")")
matched_text is_grouping (Some (excluding ls)) = if not (length ls == 0) || is_grouping then codes " ignoring (" ++ (labels_text ls ++ codes ")") else []

abbrev pub grouping_text : Cardinality → Text
grouping_text (many_to_one ls) = codes " group_left (" ++ (labels_text ls ++ codes ")")
grouping_text (one_to_many ls) = codes " group_right (" ++ (labels_text ls ++ codes ")")
grouping_text _ = []

abbrev pub fill_text : Text → Number → Text
fill_text before n = before ++ (number_text n ++ codes ")")

abbrev pub fills_text : Fills → Text
fills_text (fills None None) = []
fills_text (fills (Some r) None) = fill_text (codes " fill_right (") r
fills_text (fills None (Some l)) = fill_text (codes " fill_left (") l
fills_text (fills (Some r) (Some l)) =
    if number_eq l r then fill_text (codes " fill (") l
    else fill_text (codes " fill_left (") l ++ fill_text (codes " fill_right (") r

abbrev pub modifier_text : Matching → Text
modifier_text (matching card clause return_bool values) =
    bool_text return_bool ++ (matched_text (is_grouping card) clause ++ (grouping_text card ++ fills_text values))

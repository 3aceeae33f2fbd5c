-- What a modifier of a binary expression says, where it may be missing (docs/reference/tree.md, "Binary expressions").
use Rattle.std.specs.Prelude.{Bool, false, List, Option, Some, None, option_and_then}
use Rattle.std.specs.Option.{option_map_or}
use Rattle.promql_text.specs.Texts.{Text}
use Rattle.promql_kind.specs.Modifiers as kind
use Rattle.promql_kind.specs.Modifiers.{Matching, matching}

abbrev pub is_on : Option Matching → Bool
is_on m = option_map_or kind.is_on m false

abbrev pub has_matching_labels : Option Matching → Bool
has_matching_labels m = option_map_or kind.has_matching_labels m false

abbrev pub returns_bool : Option Matching → Bool
returns_bool None = false
returns_bool (Some (matching card clause return_bool values)) = return_bool

abbrev pub joint_labels : Option Matching → Option (List Text)
joint_labels m = option_and_then kind.joint_labels m

abbrev pub is_grouped : Option Matching → Bool
is_grouped None = false
is_grouped (Some (matching card clause return_bool values)) = kind.is_grouping card

-- What the normal form leaves out of a matching (docs/reference/printing.md, "Normal form"): by the law
-- `normal_forms_change_parts` a tree's normal form is the tree with its parts changed so.
use Rattle.std.specs.Prelude.{[], Some, None, if◌then◌else◌}
use Rattle.promql_kind.specs.Modifiers.{excluding, Matching, matching, is_grouping}

-- an empty list after `ignoring`, where no grouping follows
abbrev pub without_empty : Matching → Matching
without_empty (matching card (Some (excluding [])) return_bool values) =
    matching card (if is_grouping card then Some (excluding []) else None) return_bool values
without_empty m = m

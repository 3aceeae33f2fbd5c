-- The normal form of a tree (docs/reference/printing.md, "Normal form").
use Rattle.std.specs.Prelude.{Bool, false, [], Option, Some, None}
pub use Rattle.promql_label.specs.ReadMatchers.{normal_matchers}
use Rattle.promql_kind.specs.Modifiers.{Clause, including, excluding, one_to_one, fills, Matching, matching, is_grouping}
use Rattle.promql_ast.specs.Mapped.{mapped, maybe_mapped, all_mapped}
use Rattle.promql_ast.specs.Selectors.{Selector, selector}
use Rattle.promql_ast.specs.Tree.{Tree, MaybeTree, Trees}

abbrev pub normal_selector : Selector → Selector
normal_selector (selector name matchers offset at) = selector name (normal_matchers matchers) offset at

-- an aggregation's empty list after `by` is left out
abbrev pub normal_clause : Option Clause → Option Clause
normal_clause (Some (including [])) = None
normal_clause m = m

-- an empty list after `ignoring` is left out where no grouping follows
abbrev pub normal_matched : Bool → Option Clause → Option Clause
normal_matched false (Some (excluding [])) = None
normal_matched _ m = m

-- then a modifier that says nothing is left out
abbrev pub unless_default : Matching → Option Matching
unless_default (matching one_to_one None false (fills None None)) = None
unless_default m = Some m

abbrev pub normal_matching : Option Matching → Option Matching
normal_matching None = None
normal_matching (Some (matching card clause return_bool values)) =
    unless_default (matching card (normal_matched (is_grouping card) clause) return_bool values)

abbrev pub normal : Tree → Tree
normal = mapped normal_selector normal_clause normal_matching

abbrev pub maybe_normal : MaybeTree → MaybeTree
maybe_normal = maybe_mapped normal_selector normal_clause normal_matching

abbrev pub all_normal : Trees → Trees
all_normal = all_mapped normal_selector normal_clause normal_matching

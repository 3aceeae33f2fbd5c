-- What an engine can see of a query and a store (docs/guide/meaning.md, "What an engine sees").
use Rattle.std.specs.Prelude.{ℕ, Bool, false, ◌||◌, if◌then◌else◌, Option, Some, None, [], codes}
use Rattle.std.specs.List.{list_any}
use Rattle.std.specs.Option.{option_map_or, unwrap_or}
use Rattle.std.specs.Str.{bytes_eq}
use Rattle.promql_text.specs.Texts.{Text}
use Rattle.promql_label.specs.PlainMatchers.{PlainMatchers}
use Rattle.promql_kind.specs.Functions.{Signature, name_of}
use Rattle.promql_kind.specs.Modifiers.{Clause, Matching, including, excluding, one_to_one, fills, matching}
use Rattle.promql_kind.specs.declared.value.ValueType.{ValueType}
use Rattle.promql_ast.specs.Arguments.{first_of}
use Rattle.promql_ast.specs.Normal.{normal_matchers}
use Rattle.promql_ast.specs.Selectors.{selector}
use Rattle.promql_ast.specs.Shifts.{Shift, Moment}
use Rattle.promql_ast.specs.Tree.{Tree, aggregate, unary, binary, paren, subquery, vector, matrix, call, extension, MaybeTree, absent, present, Trees, no_trees, first_tree}
use Rattle.promql_ast.specs.declared.range_mode.RangeMode.{RangeMode}
use Rattle.promql_rewrite.specs.Collecting.{nodes_of}
use Rattle.promql_rewrite.specs.Enforcing.{is_info}
use Rattle.promql_when.specs.Reads.{target_info}
use Rattle.promql_meaning.specs.Stores.{Store, read}

-- ---- modifiers

-- of an operator: without `on` and `ignoring` no label is ignored
abbrev pub joined : Option Matching → Matching
joined None = matching one_to_one (Some (excluding [])) false (fills None None)
joined (Some (matching card clause return_bool values)) = matching card (Some (unwrap_or clause (excluding []))) return_bool values

-- ---- what a call sees beside its arguments

pub data Beside : Type 0 where
  nothing : Beside
  matchers : PlainMatchers → Beside
  series : Store → Beside

-- functions whose results have labels of the matchers of their argument
abbrev pub is_absent : Signature → Bool
is_absent f = bytes_eq (name_of f) (codes "absent") || bytes_eq (name_of f) (codes "absent_over_time")

-- the matchers of the selector that an argument is, as they print
abbrev pub matchers_in : Tree → Beside
matchers_in (paren e) = matchers_in e
matchers_in (vector (selector name cs offset at)) = matchers (normal_matchers cs)
matchers_in (matrix (selector name cs offset at) range mode) = matchers (normal_matchers cs)
matchers_in t = nothing

-- of `info`: the matchers of the second argument, or the series that are read without one
abbrev pub info_beside : Store → Trees → Beside
info_beside store (first_tree e (first_tree labels es)) = matchers_in labels
info_beside store es = series (read target_info store)

abbrev pub beside : Store → Signature → Trees → Beside
beside store f args =
    if is_absent f then option_map_or matchers_in (first_of args) nothing
    else if is_info f then info_beside store args
    else nothing

-- a call that sees something beside its arguments
abbrev pub sees_beside : Tree → Bool
sees_beside (call f args) = is_absent f || is_info f
sees_beside t = false

abbrev pub has_call_that_sees_beside : Tree → Bool
has_call_that_sees_beside t = list_any sees_beside (nodes_of t)

-- ---- trees

mutual
  pub data Seen : Type 0 where
    aggregated : ℕ → Seen → Seens → Clause → Seen
    negated : Seen → Seen
    operated : ℕ → Seen → Seen → Matching → Seen
    stepped : Seen → Option Shift → Option Moment → ℕ → Option ℕ → Seen
    literal : Tree → Seen
    instants : Store → Option Shift → Option Moment → Seen
    ranges : Store → Option Shift → Option Moment → ℕ → RangeMode → Seen
    called : Signature → Beside → Seens → Seen
    extended : Text → ValueType → Seens → Seen

  -- arguments, or the parameter of an aggregation
  pub data Seens : Type 0 where
    none_seen : Seens
    first_seen : Seen → Seens → Seens

-- of a selector the series that it selects, with its times; an aggregation without a clause groups by nothing
abbrev mutual
  pub seen : Store → Tree → Seen
  seen store (aggregate op e p m) = aggregated op (seen store e) (maybe_seen store p) (unwrap_or m (including []))
  seen store (unary e) = negated (seen store e)
  seen store (binary op l r m) = operated op (seen store l) (seen store r) (joined m)
  seen store (paren e) = seen store e
  seen store (subquery e offset at range step) = stepped (seen store e) offset at range step
  seen store (vector (selector name cs offset at)) = instants (read (selector name cs offset at) store) offset at
  seen store (matrix (selector name cs offset at) range mode) = ranges (read (selector name cs offset at) store) offset at range mode
  seen store (call f args) = called f (beside store f args) (all_seen store args)
  seen store (extension name gives es) = extended name gives (all_seen store es)
  seen store t = literal t

  pub maybe_seen : Store → MaybeTree → Seens
  maybe_seen store absent = none_seen
  maybe_seen store (present e) = first_seen (seen store e) none_seen

  pub all_seen : Store → Trees → Seens
  all_seen store no_trees = none_seen
  all_seen store (first_tree e es) = first_seen (seen store e) (all_seen store es)

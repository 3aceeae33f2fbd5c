-- Which samples a query reads (docs/reference/when.md, "What is read").
use Rattle.std.specs.Prelude.{ℕ, ℤ, Bool, true, false, ◌&&◌, if◌then◌else◌, List, [], ◌∷◌, ◌++◌, Option, Some, None, codes, bytes_eq, nat_le, option_map}
use Rattle.std.specs.List.{flat_map, list_any}
use Rattle.std.specs.Option.{option_and_then, option_map_or}
use Rattle.promql_label.specs.PlainMatchers.{plain_matchers}
use Rattle.promql_kind.specs.Functions.{Signature, name_of}
use Rattle.promql_ast.specs.Arguments.{count}
use Rattle.promql_ast.specs.Fold.{all_within, folded, maybe_within}
use Rattle.promql_ast.specs.Selectors.{Selector, selector}
use Rattle.promql_ast.specs.Shifts.{Shift, Moment}
use Rattle.promql_ast.specs.Tree.{Tree, MaybeTree, Trees, subquery, vector, matrix, call}
use Rattle.promql_when.specs.Windows.{instant, is_fitting, is_within, matrix_window, multiples_in, narrowed, step_of, subquery_window, vector_window}
use Rattle.promql_when.specs.declared.times.Times.{Times}
use Rattle.promql_when.specs.declared.times.Window.{Window}

-- what a call of `info` without a second argument reads besides
abbrev pub target_info : Selector
target_info = selector (Some (codes "target_info")) (plain_matchers [] []) None None

abbrev pub is_bare_info : Signature → Trees → Bool
is_bare_info f args = bytes_eq (name_of f) (codes "info") && nat_le (count args) 1

-- ---- at one time: each selector with each of its windows, in the order of a walk

abbrev pub reads_at : Times → Tree → (ℤ → List (Selector × Window)) → ℤ → List (Selector × Window)
reads_at ts (subquery e offset at range step) below x = flat_map below (multiples_in (step_of ts step) (subquery_window ts offset at range (instant x)))
reads_at ts (vector (selector name cs offset at)) below x = (selector name cs offset at, vector_window ts offset at (instant x)) ∷ []
reads_at ts (matrix (selector name cs offset at) range mode) below x = (selector name cs offset at, matrix_window ts offset at range mode (instant x)) ∷ []
reads_at ts (call f args) below x = below x ++ (if is_bare_info f args then (target_info, vector_window ts None None (instant x)) ∷ [] else [])
reads_at ts t below x = below x

abbrev pub reads : Times → Tree → ℤ → List (Selector × Window)
reads ts = folded (λ x. []) (λ one other x. one x ++ other x) (reads_at ts)

-- a sample of this time is read, of a selector that is one of these
abbrev pub is_read : (Selector → Bool) → ℤ → List (Selector × Window) → Bool
is_read is_one x = list_any (λ r. is_one r.0 && is_within r.1 x)

-- ---- at all times of a window: each selector with one window, in the order of a walk; none where a subquery is never evaluated

-- the window in which the expression of a subquery is evaluated
abbrev pub inner_window : Times → Option Shift → Option Moment → ℕ → Option ℕ → Option Window → Option Window
inner_window ts offset at range step = option_and_then (λ w. narrowed (step_of ts step) (subquery_window ts offset at range w))

abbrev pub info_windows : Times → Option Window → List (Selector × Option Window)
info_windows ts w = (target_info, option_map (vector_window ts None None) w) ∷ []

abbrev pub windows_at : Times → Tree → (Option Window → List (Selector × Option Window)) → Option Window → List (Selector × Option Window)
windows_at ts (subquery e offset at range step) below w = below (inner_window ts offset at range step w)
windows_at ts (vector (selector name cs offset at)) below w = (selector name cs offset at, option_map (vector_window ts offset at) w) ∷ []
windows_at ts (matrix (selector name cs offset at) range mode) below w = (selector name cs offset at, option_map (matrix_window ts offset at range mode) w) ∷ []
windows_at ts (call f args) below w = below w ++ (if is_bare_info f args then info_windows ts w else [])
windows_at ts t below w = below w

abbrev pub windows : Times → Tree → Option Window → List (Selector × Option Window)
windows ts = folded (λ w. []) (λ one other w. one w ++ other w) (windows_at ts)

-- a sample of this time lies in a window, of a selector that is one of these
abbrev pub lies_within : (Selector → Bool) → ℤ → List (Selector × Option Window) → Bool
lies_within is_one x = list_any (λ r. is_one r.0 && option_map_or (λ w. is_within w x) r.1 false)

-- ---- the first node, in the order of a walk, whose window 64 bits do not hold: that of a selector, or that of a subquery's times

abbrev pub earlier : Option Tree → Option Tree → Option Tree
earlier None u = u
earlier (Some t) u = Some t

abbrev pub unless_fitting : Tree → Option Window → Option Tree
unless_fitting t w = if option_map_or is_fitting w true then None else Some t

abbrev pub subquery_overflow : Times → Tree → Option Shift → Option Moment → ℕ → Option ℕ → Option Window → Option Tree
subquery_overflow ts e offset at range step w = unless_fitting (subquery e offset at range step) (option_map (subquery_window ts offset at range) w)

abbrev pub info_overflow : Times → Signature → Trees → Option Window → Option Tree
info_overflow ts f args w = unless_fitting (call f args) (option_map (vector_window ts None None) w)

abbrev pub overflow_at : Times → Tree → (Option Window → Option Tree) → Option Window → Option Tree
overflow_at ts (subquery e offset at range step) below w = earlier (subquery_overflow ts e offset at range step w) (below (inner_window ts offset at range step w))
overflow_at ts (vector (selector name cs offset at)) below w = unless_fitting (vector (selector name cs offset at)) (option_map (vector_window ts offset at) w)
overflow_at ts (matrix (selector name cs offset at) range mode) below w =
    unless_fitting (matrix (selector name cs offset at) range mode) (option_map (matrix_window ts offset at range mode) w)
overflow_at ts (call f args) below w = earlier (below w) (if is_bare_info f args then info_overflow ts f args w else None)
overflow_at ts t below w = below w

abbrev pub overflow : Times → Tree → Option Window → Option Tree
overflow ts = folded (λ w. None) (λ one other w. earlier (one w) (other w)) (overflow_at ts)

-- ---- the same of a parameter and of arguments. Private: nothing rests on believing it

abbrev pub maybe_reads : Times → MaybeTree → ℤ → List (Selector × Window)
maybe_reads ts = maybe_within (λ x. []) (λ one other x. one x ++ other x) (reads_at ts)

abbrev pub all_reads : Times → Trees → ℤ → List (Selector × Window)
all_reads ts = all_within (λ x. []) (λ one other x. one x ++ other x) (reads_at ts)

abbrev pub maybe_windows : Times → MaybeTree → Option Window → List (Selector × Option Window)
maybe_windows ts = maybe_within (λ w. []) (λ one other w. one w ++ other w) (windows_at ts)

abbrev pub all_windows : Times → Trees → Option Window → List (Selector × Option Window)
all_windows ts = all_within (λ w. []) (λ one other w. one w ++ other w) (windows_at ts)

abbrev pub maybe_overflow : Times → MaybeTree → Option Window → Option Tree
maybe_overflow ts = maybe_within (λ w. None) (λ one other w. earlier (one w) (other w)) (overflow_at ts)

abbrev pub any_overflow : Times → Trees → Option Window → Option Tree
any_overflow ts = all_within (λ w. None) (λ one other w. earlier (one w) (other w)) (overflow_at ts)

-- Which ends of windows are reached (docs/reference/when.md, "Windows").
use Rattle.std.specs.Prelude.{ℤ, Bool, true, false, ◌&&◌, List, Option, Some}
use Rattle.std.specs.List.{list_any}
use Rattle.std.specs.Option.{option_map_or}
use Rattle.promql_ast.specs.Fold.{all_within, folded, maybe_within}
use Rattle.promql_ast.specs.Selectors.{Selector}
use Rattle.promql_ast.specs.Tree.{Tree, MaybeTree, Trees, subquery}
use Rattle.promql_when.specs.Reads.{inner_window}
use Rattle.promql_when.specs.Windows.{instant}
use Rattle.promql_when.specs.declared.times.Times.{Times}
use Rattle.promql_when.specs.declared.times.Window.{Window}

-- the ends of a window
abbrev pub first_of : Window → ℤ
first_of w = w.first

abbrev pub last_of : Window → ℤ
last_of w = w.last

-- each subquery has a time: those in it where it is evaluated at this end of its times
abbrev pub is_evaluated_at : (Window → ℤ) → Times → Tree → (ℤ → Bool) → ℤ → Bool
is_evaluated_at end ts (subquery e offset at range step) below x = option_map_or (λ w. below (end w)) (inner_window ts offset at range step (Some (instant x))) false
is_evaluated_at end ts t below x = below x

abbrev pub all_evaluated : (Window → ℤ) → Times → Tree → ℤ → Bool
all_evaluated end ts = folded (λ x. true) (λ one other x. one x && other x) (is_evaluated_at end ts)

-- a window has this end, of a selector: both are as asked
abbrev pub has_window_to : (Window → ℤ) → (Selector → ℤ → Bool) → List (Selector × Option Window) → Bool
has_window_to end is_asked = list_any (λ r. option_map_or (λ w. is_asked r.0 (end w)) r.1 false)

abbrev pub has_read_to : (Window → ℤ) → (Selector → ℤ → Bool) → List (Selector × Window) → Bool
has_read_to end is_asked = list_any (λ r. is_asked r.0 (end r.1))

-- of a parameter and of arguments. Private: nothing rests on believing it
abbrev pub maybe_evaluated : (Window → ℤ) → Times → MaybeTree → ℤ → Bool
maybe_evaluated end ts = maybe_within (λ x. true) (λ one other x. one x && other x) (is_evaluated_at end ts)

abbrev pub each_evaluated : (Window → ℤ) → Times → Trees → ℤ → Bool
each_evaluated end ts = all_within (λ x. true) (λ one other x. one x && other x) (is_evaluated_at end ts)

-- How far from the time of evaluation a query reads (docs/reference/when.md, "Reach").
use Rattle.std.specs.Prelude.{ℕ, ℤ, ◌+◌, Bool, false, ◌&&◌, ◌||◌, if◌then◌else◌, List, [], ◌∷◌, ◌++◌, Option, Some, None, is_some}
use Rattle.std.specs.List.{list_any}
use Rattle.std.proofs.Math.IntN.{pos, ◌-ℤ◌}
use Rattle.promql_kind.specs.Functions.{Signature}
use Rattle.promql_ast.specs.Fold.{all_within, folded, maybe_within}
use Rattle.promql_ast.specs.Selectors.{Selector, selector}
use Rattle.promql_ast.specs.Shifts.{Shift, Moment}
use Rattle.promql_ast.specs.Tree.{Tree, MaybeTree, Trees, subquery, vector, matrix, call}
use Rattle.promql_when.specs.Reads.{earlier, is_bare_info, target_info, unless_fitting}
use Rattle.promql_when.specs.Windows.{after_range, around, before_range, instant, is_within, matrix_window, millis, subquery_window, vector_window}
use Rattle.promql_when.specs.declared.reach.Reach.{Reach}
use Rattle.promql_when.specs.declared.times.Times.{Times}

-- from where something is evaluated that moves with the time of evaluation, and is at that time
abbrev pub evaluation : Reach
evaluation = record { is_fixed = false; window = instant (pos 0) }

-- looking so far back and so far ahead; what has `@` does not move
abbrev pub reach_around : Times → Option Shift → Option Moment → ℕ → ℕ → Reach → Reach
reach_around ts offset at before after r = record {
  is_fixed = is_some at || r.is_fixed;
  window = around ts offset at before after r.window;
}

abbrev pub info_reach : Times → Reach → List (Selector × Reach)
info_reach ts r = (target_info, reach_around ts None None ts.lookback 0 r) ∷ []

abbrev pub reach_at : Times → Tree → (Reach → List (Selector × Reach)) → Reach → List (Selector × Reach)
reach_at ts (subquery e offset at range step) below r = below (reach_around ts offset at (millis range) 0 r)
reach_at ts (vector (selector name cs offset at)) below r = (selector name cs offset at, reach_around ts offset at ts.lookback 0 r) ∷ []
reach_at ts (matrix (selector name cs offset at) range mode) below r =
    (selector name cs offset at, reach_around ts offset at (millis range + before_range ts mode) (after_range ts mode) r) ∷ []
reach_at ts (call f args) below r = below r ++ (if is_bare_info f args then info_reach ts r else [])
reach_at ts t below r = below r

-- for each selector, in the order of a walk
abbrev pub reach : Times → Tree → Reach → List (Selector × Reach)
reach ts = folded (λ r. []) (λ one other r. one r ++ other r) (reach_at ts)

-- a sample of this time lies within reach of a time of evaluation
abbrev pub is_within_reach : ℤ → ℤ → Reach → Bool
is_within_reach x sample r = is_within r.window (if r.is_fixed then sample else sample -ℤ x)

-- of a selector that is one of these
abbrev pub is_reached : (Selector → Bool) → ℤ → ℤ → List (Selector × Reach) → Bool
is_reached is_one x sample = list_any (λ r. is_one r.0 && is_within_reach x sample r.1)

-- ---- the first node whose reach 64 bits do not hold

abbrev pub subquery_reach_overflow : Times → Tree → Option Shift → Option Moment → ℕ → Option ℕ → Reach → Option Tree
subquery_reach_overflow ts e offset at range step r = unless_fitting (subquery e offset at range step) (Some (subquery_window ts offset at range r.window))

abbrev pub info_reach_overflow : Times → Signature → Trees → Reach → Option Tree
info_reach_overflow ts f args r = unless_fitting (call f args) (Some (vector_window ts None None r.window))

abbrev pub reach_overflow_at : Times → Tree → (Reach → Option Tree) → Reach → Option Tree
reach_overflow_at ts (subquery e offset at range step) below r =
    earlier (subquery_reach_overflow ts e offset at range step r) (below (reach_around ts offset at (millis range) 0 r))
reach_overflow_at ts (vector (selector name cs offset at)) below r = unless_fitting (vector (selector name cs offset at)) (Some (vector_window ts offset at r.window))
reach_overflow_at ts (matrix (selector name cs offset at) range mode) below r =
    unless_fitting (matrix (selector name cs offset at) range mode) (Some (matrix_window ts offset at range mode r.window))
reach_overflow_at ts (call f args) below r = earlier (below r) (if is_bare_info f args then info_reach_overflow ts f args r else None)
reach_overflow_at ts t below r = below r

abbrev pub reach_overflow : Times → Tree → Reach → Option Tree
reach_overflow ts = folded (λ r. None) (λ one other r. earlier (one r) (other r)) (reach_overflow_at ts)

-- ---- the same of a parameter and of arguments. Private: nothing rests on believing it

abbrev pub maybe_reach : Times → MaybeTree → Reach → List (Selector × Reach)
maybe_reach ts = maybe_within (λ r. []) (λ one other r. one r ++ other r) (reach_at ts)

abbrev pub all_reach : Times → Trees → Reach → List (Selector × Reach)
all_reach ts = all_within (λ r. []) (λ one other r. one r ++ other r) (reach_at ts)

abbrev pub maybe_reach_overflow : Times → MaybeTree → Reach → Option Tree
maybe_reach_overflow ts = maybe_within (λ r. None) (λ one other r. earlier (one r) (other r)) (reach_overflow_at ts)

abbrev pub any_reach_overflow : Times → Trees → Reach → Option Tree
any_reach_overflow ts = all_within (λ r. None) (λ one other r. earlier (one r) (other r)) (reach_overflow_at ts)

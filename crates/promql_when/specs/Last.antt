-- Up to when a query reads, and which queries are the same at every time (docs/reference/when.md, "Final answers" and "Constant queries").
use Rattle.std.specs.Prelude.{ℤ, Bool, false, true, ◌&&◌, not, List, [], ◌∷◌, Option, Some, None, bytes_eq, codes, is_some, option_map}
use Rattle.std.specs.Int.{int_max}
use Rattle.std.specs.List.{list_any}
use Rattle.promql_kind.specs.Functions.{Signature, name_of}
use Rattle.promql_ast.specs.Fold.{all_within, folded, maybe_within}
use Rattle.promql_ast.specs.Selectors.{Selector, selector}
use Rattle.promql_ast.specs.Tree.{MaybeTree, Tree, Trees, call, extension, matrix, subquery, vector}
use Rattle.promql_when.specs.declared.times.Window.{Window}

abbrev pub later : Option ℤ → Option ℤ → Option ℤ
later None y = y
later (Some x) None = Some x
later (Some x) (Some y) = Some (int_max x y)

-- the last time of all windows
abbrev pub last_of : List (Selector × Option Window) → Option ℤ
last_of [] = None
last_of (r ∷ rs) = later (option_map (λ w. w.last) r.1) (last_of rs)

-- ---- the same at every time

-- functions whose value may depend on the time of evaluation, or on the times of samples, where their arguments are constant
abbrev pub depends_on_time : Signature → Bool
depends_on_time f = list_any (bytes_eq (name_of f))
    (codes "time" ∷ codes "info" ∷ codes "timestamp" ∷ codes "predict_linear" ∷ codes "minute" ∷ codes "hour" ∷ codes "day_of_week" ∷ codes "day_of_month"
    ∷ codes "day_of_year" ∷ codes "days_in_month" ∷ codes "month" ∷ codes "year" ∷ codes "start" ∷ codes "end" ∷ codes "step" ∷ codes "range" ∷ [])

abbrev pub is_constant_at : Tree → Bool → Bool
is_constant_at (subquery e offset at range step) below = is_some at
is_constant_at (vector (selector name cs offset at)) below = is_some at
is_constant_at (matrix (selector name cs offset at) range mode) below = is_some at
is_constant_at (call f args) below = not (depends_on_time f) && below
is_constant_at (extension name gives es) below = false
is_constant_at t below = below

abbrev pub is_constant : Tree → Bool
is_constant = folded true ◌&&◌ is_constant_at

-- of a parameter and of arguments. Private: nothing rests on believing it
abbrev pub maybe_constant : MaybeTree → Bool
maybe_constant = maybe_within true ◌&&◌ is_constant_at

abbrev pub all_constant : Trees → Bool
all_constant = all_within true ◌&&◌ is_constant_at

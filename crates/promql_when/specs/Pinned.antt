-- Queries whose `@ start()` and `@ end()` are numbers (docs/reference/when.md, "Pinned queries").
use Rattle.std.specs.Prelude.{ℕ, ℤ, Bool, false, ◌||◌, [], ◌∷◌, bytes_eq, codes, option_map}
use Rattle.std.specs.List.{list_any}
use Rattle.promql_kind.specs.Functions.{Signature, name_of}
use Rattle.promql_ast.specs.Fold.{all_within, folded, maybe_within}
use Rattle.promql_ast.specs.Selectors.{Selector, selector}
use Rattle.promql_ast.specs.Shifts.{Moment, at_start, at_end, at_time}
use Rattle.promql_ast.specs.Tree.{Tree, aggregate, unary, binary, paren, subquery, vector, matrix, call, extension, MaybeTree, absent, present, Trees, no_trees, first_tree}
use Rattle.promql_when.specs.declared.times.Times.{Times}

abbrev pub pinned_at : ℤ → ℤ → Moment → Moment
pinned_at start end at_start = at_time start
pinned_at start end at_end = at_time end
pinned_at start end (at_time t) = at_time t

abbrev pub pinned_selector : ℤ → ℤ → Selector → Selector
pinned_selector start end (selector name cs offset at) = selector name cs offset (option_map (pinned_at start end) at)

abbrev mutual
  pub pinned : ℤ → ℤ → Tree → Tree
  pinned start end (aggregate op e p m) = aggregate op (pinned start end e) (maybe_pinned start end p) m
  pinned start end (unary e) = unary (pinned start end e)
  pinned start end (binary op l r m) = binary op (pinned start end l) (pinned start end r) m
  pinned start end (paren e) = paren (pinned start end e)
  pinned start end (subquery e offset at range step) = subquery (pinned start end e) offset (option_map (pinned_at start end) at) range step
  pinned start end (vector s) = vector (pinned_selector start end s)
  pinned start end (matrix s range mode) = matrix (pinned_selector start end s) range mode
  pinned start end (call f args) = call f (all_pinned start end args)
  pinned start end (extension name gives es) = extension name gives (all_pinned start end es)
  pinned start end t = t

  pub maybe_pinned : ℤ → ℤ → MaybeTree → MaybeTree
  maybe_pinned start end absent = absent
  maybe_pinned start end (present e) = present (pinned start end e)

  pub all_pinned : ℤ → ℤ → Trees → Trees
  all_pinned start end no_trees = no_trees
  all_pinned start end (first_tree e es) = first_tree (pinned start end e) (all_pinned start end es)

-- an engine over other times
abbrev pub over : ℤ → ℤ → ℕ → Times → Times
over start end step ts = record {
  start = start;
  end = end;
  step = step;
  lookback = ts.lookback;
  default_step = ts.default_step;
  is_left_open = ts.is_left_open;
}

-- ---- functions whose value is that of the whole query

abbrev pub is_grid_function : Signature → Bool
is_grid_function f = list_any (bytes_eq (name_of f)) (codes "start" ∷ codes "end" ∷ codes "step" ∷ codes "range" ∷ [])

abbrev pub asks_grid_at : Tree → Bool → Bool
asks_grid_at (call f args) below = is_grid_function f || below
asks_grid_at t below = below

abbrev pub asks_grid : Tree → Bool
asks_grid = folded false ◌||◌ asks_grid_at

-- of a parameter and of arguments. Private: nothing rests on believing it
abbrev pub maybe_asks_grid : MaybeTree → Bool
maybe_asks_grid = maybe_within false ◌||◌ asks_grid_at

abbrev pub any_asks_grid : Trees → Bool
any_asks_grid = all_within false ◌||◌ asks_grid_at

-- Where the selectors are that a query reads (docs/reference/when.md, "Places of windows").
use Rattle.std.specs.Prelude.{List, [], ◌∷◌, ◌++◌, Option, None, drop, if◌then◌else◌, slice_get}
use Rattle.promql_ast.specs.Fold.{all_within, folded, maybe_within}
use Rattle.promql_ast.specs.Tree.{Tree, MaybeTree, Trees, vector, matrix, call}
use Rattle.promql_span.specs.declared.span.Span.{Span}
use Rattle.promql_when.specs.Reads.{is_bare_info}

-- what a walk comes to: a selector, another node, or the `target_info` that a call of `info` reads without a second argument
pub data Step : Type 0 where
  selector_node other_node bare_info : Step

abbrev pub steps_at : Tree → List Step → List Step
steps_at (vector s) below = selector_node ∷ below
steps_at (matrix s range mode) below = selector_node ∷ below
steps_at (call f args) below = other_node ∷ (below ++ (if is_bare_info f args then bare_info ∷ [] else []))
steps_at t below = other_node ∷ below

abbrev pub steps : Tree → List Step
steps = folded [] ◌++◌ steps_at

-- of each selector its place, where each node has the place that comes next; `target_info` is not in the text
abbrev pub selector_places : List Step → List Span → List (Option Span)
selector_places [] places = []
selector_places (selector_node ∷ more) places = slice_get places 0 ∷ selector_places more (drop 1 places)
selector_places (other_node ∷ more) places = selector_places more (drop 1 places)
selector_places (bare_info ∷ more) places = None ∷ selector_places more places

-- ---- the same of a parameter and of arguments. Private: nothing rests on believing it

abbrev pub maybe_steps : MaybeTree → List Step
maybe_steps = maybe_within [] ◌++◌ steps_at

abbrev pub all_steps : Trees → List Step
all_steps = all_within [] ◌++◌ steps_at

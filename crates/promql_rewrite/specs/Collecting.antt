-- What a query names (docs/guide/rewriting.md, "Collecting").
use Rattle.std.specs.Prelude.{◌↔◌, ℕ, Bool, false, not, List, [], ◌∷◌, ◌++◌, Option, Some, None, codes, filter, map, option_map, option_to_list, string_bytes, unwrap_or}
use Rattle.std.specs.Duration.{as_nanos}
use Rattle.std.specs.List.{Contains, flat_map}
use Rattle.std.specs.Option.{option_map_or}
use Rattle.std.specs.List.Sorted.{IsStrictlySortedBy}
use Rattle.std.specs.Str.{bytes_eq}
use Rattle.promql_text.specs.Texts.{Text}
use Rattle.promql_label.specs.PlainMatchers.{PlainMatcher, plain_matcher, equal, every, matchers_text, name_of, value_of}
use Rattle.promql_label.specs.SortedTexts.{text_order}
use Rattle.promql_kind.specs.Functions.{name_of as function_name}
use Rattle.promql_kind.specs.Modifiers.{Matching, matching, clause_labels, grouping}
use Rattle.promql_ast.specs.Fold.{folded, within, maybe_within, all_within}
use Rattle.promql_ast.specs.Selectors.{Selector, selector}
use Rattle.promql_ast.specs.Shifts.{Shift, shift_of, Moment, moment_of}
use Rattle.promql_ast.specs.Tree.{Tree, aggregate, binary, vector, matrix, call, MaybeTree, Trees}
use Rattle.promql_rewrite.specs.declared.collecting.CollectedSelector.{CollectedSelector}

-- exactly the texts of the list, each once, in byte order
pub record IsSetOf (texts set : List Text) : Type 0 where
  pub same : (t : Text) → Contains texts t ↔ Contains set t
  pub rising : IsStrictlySortedBy text_order set

-- ---- the nodes of a tree

-- in the order of the text, each before those within it
abbrev pub nodes_of : Tree → List Tree
nodes_of = folded [] ◌++◌ ◌∷◌

-- ---- what one node names

-- the node's own selector, with its range
abbrev pub own_selector : Tree → Option (Selector × Option ℕ)
own_selector (vector s) = Some (s, None)
own_selector (matrix s range mode) = Some (s, Some range)
own_selector _ = None

-- an equal matcher of `__name__` names a metric
abbrev pub is_metric_name : PlainMatcher → Bool
is_metric_name (plain_matcher equal name value) = bytes_eq name (codes "__name__")
is_metric_name _ = false

-- the name before the braces, if there is one, and the values of the matchers that name a metric
abbrev pub selector_metrics : Selector → List Text
selector_metrics (selector name cs offset at) = option_to_list name ++ map value_of (filter is_metric_name (every cs))

abbrev pub own_metrics : Tree → List Text
own_metrics t = option_map_or (λ s. selector_metrics s.0) (own_selector t) []

-- the labels of the matchers, but `__name__`
abbrev pub selector_labels : Selector → List Text
selector_labels (selector name cs offset at) = map name_of (filter (λ c. not (bytes_eq (name_of c) (codes "__name__"))) (every cs))

-- the labels after `on` or `ignoring`, then those after `group_left` or `group_right`
abbrev pub matching_labels : Matching → List Text
matching_labels (matching card clause return_bool values) = unwrap_or (option_map clause_labels clause) [] ++ unwrap_or (grouping card) []

-- of an aggregation the labels after `by` or `without`
abbrev pub own_labels : Tree → List Text
own_labels (aggregate op e p m) = unwrap_or (option_map clause_labels m) []
own_labels (binary op l r m) = unwrap_or (option_map matching_labels m) []
own_labels t = option_map_or (λ s. selector_labels s.0) (own_selector t) []

abbrev pub own_functions : Tree → List Text
own_functions (call f args) = function_name f ∷ []
own_functions _ = []

-- a selector as it is collected: the name before its braces, its matchers as they print, its range in nanoseconds, `offset` and `@`
pub data Selection : Type 0 where
  selected : Option Text → Text → Option ℕ → Option Shift → Option Moment → Selection

abbrev pub selection : Selector → Option ℕ → Selection
selection (selector name cs offset at) range = selected name (matchers_text cs) range offset at

abbrev pub own_selectors : Tree → List Selection
own_selectors t = option_to_list (option_map (λ s. selection s.0 s.1) (own_selector t))

-- what contracts see of a collected selector
abbrev pub selected_of : CollectedSelector → Selection
selected_of s = selected (option_map string_bytes s.name) (string_bytes s.matchers) (option_map as_nanos s.range) (option_map shift_of s.offset) (option_map moment_of s.at)

-- ---- what a query names, node by node

abbrev pub from_nodes : {A : Type 0} → (Tree → List A) → Tree → List A
from_nodes own t = flat_map own (nodes_of t)

-- ---- of parts of trees and of one matcher. Private: nothing rests on believing it

abbrev pub nodes_within : Tree → List Tree
nodes_within = within [] ◌++◌ ◌∷◌

abbrev pub maybe_nodes : MaybeTree → List Tree
maybe_nodes = maybe_within [] ◌++◌ ◌∷◌

abbrev pub all_nodes : Trees → List Tree
all_nodes = all_within [] ◌++◌ ◌∷◌

-- a matcher that names no metric
abbrev pub is_label_matcher : PlainMatcher → Bool
is_label_matcher c = not (bytes_eq (name_of c) (codes "__name__"))

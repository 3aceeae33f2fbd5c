-- The JSON form of a tree with the places of its nodes and matchers (docs/reference/json.md, "Places").
use Rattle.std.specs.Prelude.{◌≡◌, List, [], ◌∷◌, ◌++◌, Option, codes, drop, filter, length, map, slice_get, zip}
use Rattle.std.specs.Option.{option_map_or}
use Rattle.serde_json.specs.Data.{Data, null, number as whole_number, unsigned, string as text, object, Members, put}
use Rattle.promql_text.specs.Texts.{Text}
use Rattle.promql_label.specs.PlainMatchers.{PlainMatcher, PlainMatchers, plain_matchers}
use Rattle.promql_ast.specs.Fold.{maybe_within}
use Rattle.promql_ast.specs.Selectors.{selector}
use Rattle.promql_ast.specs.Tree.{Tree, aggregate, unary, binary, paren, subquery, vector, matrix, call, MaybeTree, absent, present, Trees, no_trees, first_tree}
use Rattle.promql_json.specs.Json.{json_value, node_parts}
use Rattle.promql_json.specs.JsonParts.{list, matcher_json, with_groups}
use Rattle.promql_span.specs.declared.span.Span.{Span}
use Rattle.promql_places.specs.NodeParts.{parts_of}
use Rattle.promql_places.specs.NodePlaces.{AreOfNodes, place_of, tree_nodes}
use Rattle.promql_places.specs.contracts.parts.PartKindPartialEq.TheImpl as same_kinds
use Rattle.promql_places.specs.declared.parts.Part.{Part}
use Rattle.promql_places.specs.declared.parts.PartKind.TheVariants as kind

-- the members with a place
abbrev pub with_place : Span → Members → Members
with_place p ms = put (codes "start") (whole_number (unsigned p.start)) (put (codes "end") (whole_number (unsigned p.end)) ms)

-- ---- matchers

abbrev pub matcher_places : List Part → List Span
matcher_places ps = map (λ p. p.span) (filter (λ p. same_kinds.ghosts.eq p.kind kind.Matcher) ps)

abbrev pub placed_object : Span → Data → Data
placed_object p (object ms) = object (with_place p ms)
placed_object p d = d

abbrev pub placed_matcher : Option Span → PlainMatcher → Data
placed_matcher place m = option_map_or (λ p. placed_object p (matcher_json m)) place (matcher_json m)

-- each with the place that comes next
abbrev pub placed_matchers : List PlainMatcher → List Span → List Data
placed_matchers [] ps = []
placed_matchers (m ∷ ms) ps = placed_matcher (slice_get ps 0) m ∷ placed_matchers ms (drop 1 ps)

abbrev pub placed_groups : List (List PlainMatcher) → List Span → List Data
placed_groups [] ps = []
placed_groups (g ∷ gs) ps = list (placed_matchers g ps) ∷ placed_groups gs (drop (length g) ps)

abbrev pub with_placed_matchers : PlainMatchers → List Span → Members → Members
with_placed_matchers (plain_matchers plain groups) ps ms =
    with_groups (placed_groups groups (drop (length plain) ps)) (put (codes "matchers") (list (placed_matchers plain ps)) ms)

-- ---- nodes

-- a node's place, and its parts
abbrev pub NodePlace : Type 0
NodePlace = Span × List Part

-- a node's object: that of its form with its place, and anew the members that hold matchers and other nodes
abbrev pub placed_node : (List Span → List NodePlace → Members → Members) → Tree → List NodePlace → Data
placed_node anew t [] = json_value t
placed_node anew t (p ∷ ps) =
    object (with_place p.0 (anew (matcher_places p.1) ps (put (codes "type") (text (node_parts t).0) (node_parts t).1)))

-- places are in the order of a walk, and those of a node come before those below it
abbrev mutual
  pub with_placed : Tree → List Span → List NodePlace → Members → Members
  with_placed (aggregate op e p m) = λ qs ps ms.
      put (codes "expr") (placed_node (with_placed e) e (drop (length (maybe_within [] ◌++◌ ◌∷◌ p)) ps)) (put (codes "param") (placed_param p ps) ms)
  with_placed (unary e) = λ qs ps ms. put (codes "expr") (placed_node (with_placed e) e ps) ms
  with_placed (binary op l r m) = λ qs ps ms.
      put (codes "rhs") (placed_node (with_placed r) r (drop (length (tree_nodes l)) ps)) (put (codes "lhs") (placed_node (with_placed l) l ps) ms)
  with_placed (paren e) = λ qs ps ms. put (codes "expr") (placed_node (with_placed e) e ps) ms
  with_placed (subquery e offset at range step) = λ qs ps ms. put (codes "expr") (placed_node (with_placed e) e ps) ms
  with_placed (vector (selector name cs offset at)) = λ qs ps ms. with_placed_matchers cs qs ms
  with_placed (matrix (selector name cs offset at) range mode) = λ qs ps ms. with_placed_matchers cs qs ms
  with_placed (call f ts) = λ qs ps ms. put (codes "args") (list (placed_args ts ps)) ms
  with_placed t = λ qs ps ms. ms

  pub placed_param : MaybeTree → List NodePlace → Data
  placed_param absent = λ ps. null
  placed_param (present e) = λ ps. placed_node (with_placed e) e ps

  pub placed_args : Trees → List NodePlace → List Data
  placed_args no_trees = λ ps. []
  placed_args (first_tree e es) = λ ps. placed_node (with_placed e) e ps ∷ placed_args es (drop (length (tree_nodes e)) ps)

-- ---- the form of a text's tree

-- this value
abbrev pub IsPlacedForm : Text → Tree → Data → Type 0
IsPlacedForm s t d =
    (places : List Span) × (lists : List (List Part)) × AreOfNodes (place_of s) s t places × AreOfNodes (parts_of s) s t lists
    × (d ≡ placed_node (with_placed t) t (zip places lists))

-- Steps of a form with places: what is left of the places, and what is put for the nodes and matchers that are left.
use Rattle.std.proofs.Common.{◌≡◌, ◌<◌, ◌≤◌, ◌+◌, ◌∙◌, ℕ, Option, None, Some, Ok, Err, List, [], ◌∷◌, ◌++◌, Global, Vec, ap, sym, refl, arith, codes, drop, get_or, length, map, rules}
use Rattle.std.specs.Prelude.{slice_get}
use Rattle.std.specs.Option.{option_or}
use Rattle.std.proofs.lemmas.List.{append_assoc, append-nil, drop-drop, drop_all, drop_more, length-append, length-map, map-append}
use Rattle.std.specs.declared.boxed.Box.{Box}
use Rattle.serde_json.specs.Data.{Data, Members, put, string as text}
use Rattle.serde_json.specs.View.{view}
use Rattle.serde_json.specs.declared.value.Value.{Value, Array, the_lemmas}
use Rattle.promql_label.specs.MatcherViews.{plain_matcher_of}
use Rattle.promql_label.specs.PlainMatchers.{PlainMatcher}
use Rattle.promql_label.specs.declared.matcher.Matcher.{Matcher}
use Rattle.promql_ast.specs.Fold.{all_within}
use Rattle.promql_ast.specs.Tree.{Tree, aggregate, unary, binary, paren, subquery, number, string, vector, matrix, call, extension, MaybeTree, absent, present, Trees, no_trees, first_tree}
use Rattle.promql_ast.specs.View.{tree_of, trees_of}
use Rattle.promql_ast.specs.declared.expr.Expr.{Expr}
use Rattle.promql_json.specs.Json.{first_fault, json, json_value, own_fault}
use Rattle.promql_json.specs.FormNames.{node_members, type_name, unless}
use Rattle.promql_json.specs.JsonFaults.{args_fault, json_fault}
use Rattle.promql_json.specs.declared.error.JsonError.{JsonError}
use Rattle.promql_json.proofs.FaultOrder.{first_met}
use Rattle.promql_json.specs.JsonParts.{list, with_groups}
use Rattle.promql_walk.specs.PlainMembers.{typed_members}
use Rattle.promql_span.specs.declared.span.Span.{Span}
use Rattle.promql_places.specs.PlacedForms.{NodePlace, placed_args, placed_groups, placed_matcher, placed_matchers, with_placed}
use Rattle.promql_places.specs.PlacedFormSteps.{args_count, inner_count, inner_fault, node_count, nodes_within, param_count, placed_value}

-- the members of nodes are put in any case
pub from_plain : (t : Tree) (qs : List Span) (ps : List NodePlace) → with_placed t qs ps (typed_members t) ≡ with_placed t qs ps (put (codes "type") (text (type_name t)) (node_members t))
from_plain (aggregate op e p m) qs ps = refl
from_plain (unary e) qs ps = refl
from_plain (binary op l r m) qs ps = refl
from_plain (paren e) qs ps = refl
from_plain (subquery e offset at range step) qs ps = refl
from_plain (number n) qs ps = refl
from_plain (string s) qs ps = refl
from_plain (vector s) qs ps = refl
from_plain (matrix s range mode) qs ps = refl
from_plain (call f args) qs ps = refl
from_plain (extension name gives es) qs ps = refl

-- ---- faults

first_of_none : (a : Option JsonError) → a ≡ option_or a None
first_of_none None = refl
first_of_none (Some e) = refl

-- a node's own comes first
whole_fault : (t : Tree) → json_fault t ≡ option_or (own_fault t) (inner_fault t)
whole_fault (aggregate op e p m) = refl
whole_fault (unary e) = refl
whole_fault (binary op l r m) = refl
whole_fault (paren e) = refl
whole_fault (subquery e offset at range step) = refl
whole_fault (number n) = refl
whole_fault (string s) = refl
whole_fault (vector s) = first_of_none (own_fault (vector s))
whole_fault (matrix s range mode) = first_of_none (own_fault (matrix s range mode))
whole_fault (call f args) = refl
whole_fault (extension name gives es) = refl

pub fault_inside : (t : Tree) (f : Option JsonError) → own_fault t ≡ None → inner_fault t ≡ f → json_fault t ≡ f
fault_inside t f own inside = whole_fault t ∙ ap (λ a. option_or a (inner_fault t)) own ∙ inside

pub own_first : (t : Tree) (e : JsonError) → own_fault t ≡ Some e → json_fault t ≡ Some e
own_first t e own = whole_fault t ∙ ap (λ a. option_or a (inner_fault t)) own

value_of : (f : Option JsonError) (d e : Data) → unless f d ≡ Ok e → (e ≡ d) × (f ≡ None)
value_of None d e is = (cc, refl)
value_of (Some x) d e is = absurd cc

fault_of : (f : Option JsonError) (d : Data) (e : JsonError) → unless f d ≡ Err e → f ≡ Some e
fault_of None d e is = absurd cc
fault_of (Some x) d e is = cc

pub form_is : (t : Tree) (d : Data) → json t ≡ Ok d → (d ≡ json_value t) × (json_fault t ≡ None)
form_is t d is = let both = value_of (first_fault t) (json_value t) d is in (both.0, first_met t ∙ both.1)

pub fault_is : (t : Tree) (e : JsonError) → json t ≡ Err e → json_fault t ≡ Some e
fault_is t e is = first_met t ∙ fault_of (first_fault t) (json_value t) e is

pub has_form : (t : Tree) → json_fault t ≡ None → json t ≡ Ok (json_value t)
has_form t fits = ap (λ f. unless f (json_value t)) (sym (first_met t) ∙ fits)

pub has_none : (t : Tree) (e : JsonError) → json_fault t ≡ Some e → json t ≡ Err e
has_none t e is = ap (λ f. unless f (json_value t)) (sym (first_met t) ∙ is)

-- ---- what is left

module _ {A : Type 0} where
  pub after_two : (m n : ℕ) (ps qs rs : List A) → qs ≡ drop m ps → rs ≡ drop n qs → rs ≡ drop (m + n) ps
  after_two m n ps qs rs first second = second ∙ ap (drop n) first ∙ drop-drop n m ps

pub param_counted : (p : MaybeTree) (e : Tree) → inner_count (aggregate 0 e p None) ≡ param_count p + node_count e
param_counted absent e = omega arith
param_counted (present q) e = length-append (q ∷ nodes_within q) (e ∷ nodes_within e)

pub sides_counted : (l r : Tree) → length ((l ∷ nodes_within l) ++ r ∷ nodes_within r) ≡ node_count l + node_count r
sides_counted l r = length-append (l ∷ nodes_within l) (r ∷ nodes_within r)

pub args_counted : (ts : Trees) → length (all_within [] ◌++◌ ◌∷◌ ts) ≡ args_count ts
args_counted no_trees = refl
args_counted (first_tree e es) = length-append (e ∷ nodes_within e) (all_within [] ◌++◌ ◌∷◌ es) ∙ ap (λ n. node_count e + n) (args_counted es)

-- ---- one more of a list

module _ {X : Type 0} where
  pub first_left : (xs : List X) (i : ℕ) (y : X) → i < length xs → y ≡ get_or xs i y → drop i xs ≡ y ∷ drop (i + 1) xs
  first_left xs i y within is = drop_more xs i y within ∙ ap (λ z. z ∷ drop (i + 1) xs) (sym is)

-- the array of what was pushed
pub array_of : (vs : Vec Value Global) → view (Array vs) ≡ list (map view vs.items)
array_of vs = search (rules, the_lemmas)

-- what is pushed was the first that is left
pub pushed : (vs : List Value) (v : Value) (d : Data) (ds all : List Data) → view v ≡ d → map view vs ++ d ∷ ds ≡ all → map view (vs ++ v ∷ []) ++ ds ≡ all
pushed vs v d ds all is before =
    ap (λ l. l ++ ds) (map-append view vs (v ∷ [])) ∙ append_assoc (map view vs) (view v ∷ []) ds ∙ ap (λ e. map view vs ++ e ∷ ds) is ∙ before

pub some_groups : (gs : List (Vec Matcher Global)) (ps : List Span) (ms : Members) → 0 < length gs →
    put (codes "or_matchers") (list (placed_groups (map (λ g. map plain_matcher_of g.items) gs) ps)) ms ≡ with_groups (placed_groups (map (λ g. map plain_matcher_of g.items) gs) ps) ms
some_groups [] ps ms h = absurd (omega arith)
some_groups (g ∷ gs) ps ms h = refl

-- ---- arguments

module _ (args : List (Box Expr Global)) (i : ℕ) where
  pub args_values : (b : Box Expr Global) (vs : List Value) (v : Value) (now next : List NodePlace) (all : List Data) → i < length args → b ≡ get_or args i b
      → view v ≡ placed_value (tree_of b.value) now → next ≡ drop (node_count (tree_of b.value)) now
      → map view vs ++ placed_args (trees_of (drop i args)) now ≡ all → map view (vs ++ v ∷ []) ++ placed_args (trees_of (drop (i + 1) args)) next ≡ all
  args_values b vs v now next all within is made rest done =
      let e = tree_of b.value in
      let more = drop (i + 1) args in
      pushed vs v (placed_value e now) (placed_args (trees_of more) next) all made
      (ap (λ n. map view vs ++ placed_value e now ∷ placed_args (trees_of more) n) rest
      ∙ ap (λ l. map view vs ++ placed_args (trees_of l) now) (sym (first_left args i b within is)) ∙ done)

  pub args_rest : (b : Box Expr Global) (now next last : List NodePlace) → i < length args → b ≡ get_or args i b
      → next ≡ drop (node_count (tree_of b.value)) now
      → drop (args_count (trees_of (drop i args))) now ≡ last → drop (args_count (trees_of (drop (i + 1) args))) next ≡ last
  args_rest b now next last within is rest done =
      ap (drop (args_count (trees_of (drop (i + 1) args)))) rest ∙ drop-drop (args_count (trees_of (drop (i + 1) args))) (node_count (tree_of b.value)) now
      ∙ ap (λ l. drop (args_count (trees_of l)) now) (sym (first_left args i b within is)) ∙ done

  pub args_faults : (b : Box Expr Global) (all : Option JsonError) → i < length args → b ≡ get_or args i b → json_fault (tree_of b.value) ≡ None
      → args_fault (trees_of (drop i args)) ≡ all → args_fault (trees_of (drop (i + 1) args)) ≡ all
  args_faults b all within is fits done =
      ap (λ f. option_or f (args_fault (trees_of (drop (i + 1) args)))) (sym fits) ∙ ap (λ l. args_fault (trees_of l)) (sym (first_left args i b within is)) ∙ done

  pub arg_fault : (b : Box Expr Global) (e : JsonError) (all : Option JsonError) → i < length args → b ≡ get_or args i b → json_fault (tree_of b.value) ≡ Some e
      → args_fault (trees_of (drop i args)) ≡ all → all ≡ Some e
  arg_fault b e all within is fault done =
      sym done ∙ ap (λ l. args_fault (trees_of l)) (first_left args i b within is) ∙ ap (λ f. option_or f (args_fault (trees_of (drop (i + 1) args)))) fault

  pub args_end : (vs : List Value) (now : List NodePlace) (all : List Data) → length args ≤ i
      → map view vs ++ placed_args (trees_of (drop i args)) now ≡ all → map view vs ≡ all
  args_end vs now all end done =
      sym (append-nil (map view vs)) ∙ ap (λ l. map view vs ++ placed_args (trees_of l) now) (sym (drop_all i args end)) ∙ done

  pub args_rest_end : (now last : List NodePlace) → length args ≤ i → drop (args_count (trees_of (drop i args))) now ≡ last → now ≡ last
  args_rest_end now last end done = ap (λ l. drop (args_count (trees_of l)) now) (sym (drop_all i args end)) ∙ done

  pub args_faults_end : (all : Option JsonError) → length args ≤ i → args_fault (trees_of (drop i args)) ≡ all → all ≡ None
  args_faults_end all end done = sym done ∙ ap (λ l. args_fault (trees_of l)) (drop_all i args end)

-- ---- matchers

module _ (ms : List Matcher) (i : ℕ) where
  pub matchers_values : (m : Matcher) (vs : List Value) (v : Value) (now next : List Span) (all : List Data) → i < length ms → m ≡ get_or ms i m
      → view v ≡ placed_matcher (slice_get now 0) (plain_matcher_of m) → next ≡ drop 1 now
      → map view vs ++ placed_matchers (map plain_matcher_of (drop i ms)) now ≡ all → map view (vs ++ v ∷ []) ++ placed_matchers (map plain_matcher_of (drop (i + 1) ms)) next ≡ all
  matchers_values m vs v now next all within is made rest done =
      let d = placed_matcher (slice_get now 0) (plain_matcher_of m) in
      let more = map plain_matcher_of (drop (i + 1) ms) in
      pushed vs v d (placed_matchers more next) all made
      (ap (λ n. map view vs ++ d ∷ placed_matchers more n) rest
      ∙ ap (λ l. map view vs ++ placed_matchers (map plain_matcher_of l) now) (sym (first_left ms i m within is)) ∙ done)

  pub matchers_end : (vs : List Value) (now : List Span) (all : List Data) → length ms ≤ i
      → map view vs ++ placed_matchers (map plain_matcher_of (drop i ms)) now ≡ all → map view vs ≡ all
  matchers_end vs now all end done =
      sym (append-nil (map view vs)) ∙ ap (λ l. map view vs ++ placed_matchers (map plain_matcher_of l) now) (sym (drop_all i ms end)) ∙ done

abbrev pub plain_groups : List (Vec Matcher Global) → List (List PlainMatcher)
plain_groups = map (λ g. map plain_matcher_of g.items)

module _ (gs : List (Vec Matcher Global)) (i : ℕ) where
  pub groups_values : (g : Vec Matcher Global) (vs : List Value) (v : Value) (now next : List Span) (all : List Data) → i < length gs → g ≡ get_or gs i g
      → view v ≡ list (placed_matchers (map plain_matcher_of g.items) now) → next ≡ drop (length g.items) now
      → map view vs ++ placed_groups (plain_groups (drop i gs)) now ≡ all → map view (vs ++ v ∷ []) ++ placed_groups (plain_groups (drop (i + 1) gs)) next ≡ all
  groups_values g vs v now next all within is made rest done =
      let d = list (placed_matchers (map plain_matcher_of g.items) now) in
      let more = plain_groups (drop (i + 1) gs) in
      let long : length (map plain_matcher_of g.items) ≡ length g.items = length-map g.items plain_matcher_of in
      pushed vs v d (placed_groups more next) all made
      (ap (λ n. map view vs ++ d ∷ placed_groups more n) (rest ∙ ap (λ n. drop n now) (sym long))
      ∙ ap (λ l. map view vs ++ placed_groups (plain_groups l) now) (sym (first_left gs i g within is)) ∙ done)

  pub groups_end : (vs : List Value) (now : List Span) (all : List Data) → length gs ≤ i
      → map view vs ++ placed_groups (plain_groups (drop i gs)) now ≡ all → map view vs ≡ all
  groups_end vs now all end done =
      sym (append-nil (map view vs)) ∙ ap (λ l. map view vs ++ placed_groups (plain_groups l) now) (sym (drop_all i gs end)) ∙ done

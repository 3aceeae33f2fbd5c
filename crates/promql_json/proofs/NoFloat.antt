-- The JSON form of a tree has no float, so its text is known to the byte.
use Rattle.std.proofs.Common.{◌≡◌, Ok, ap, ◌∙◌, ℤ, pos, negsuc, false, List, [], ◌∷◌, map, codes, Option, Some, None, Ordering, Less, Equal, Greater, refl}
use Rattle.std.proofs.lemmas.Bool.{or_parts, or_from}
use Rattle.std.specs.Cmp.Lexicographic.{slice_cmp}
use Rattle.std.specs.Ordering.{nat_cmp, match_ordering}
use Rattle.serde_json.specs.Data.{Data, string as text, Members, no_members, member, put}
use Rattle.serde_json.specs.Find.{is_float, of_integer}
use Rattle.serde_json.specs.View.{items_of}
use Rattle.serde_json.specs.Written.{has_float, items_have_float, members_have_float}
use Rattle.promql_text.specs.Texts.{Text}
use Rattle.promql_label.specs.PlainMatchers.{PlainMatcher, plain_matcher, plain_matchers}
use Rattle.promql_kind.specs.Functions.{Signature, signature}
use Rattle.promql_kind.specs.Modifiers.{Cardinality, one_to_one, many_to_one, one_to_many, many_to_many, Fills, fills, Matching, matching}
use Rattle.promql_ast.specs.Selectors.{Selector, selector}
use Rattle.promql_ast.specs.Shifts.{Moment, at_start, at_end, at_time}
use Rattle.promql_ast.specs.Tree.{Tree, aggregate, unary, binary, paren, subquery, number, string, vector, matrix, call, extension, MaybeTree, absent, present, Trees, no_trees, first_tree}
use Rattle.promql_ast.specs.declared.range_mode.RangeMode.{RangeMode}
use Rattle.promql_ast.specs.declared.range_mode.RangeMode.TheVariants.{Plain, Smoothed, Anchored}
use Rattle.promql_json.specs.declared.error.JsonError.{JsonError}
use Rattle.promql_json.specs.JsonParts as part
use Rattle.promql_json.specs.FormNames.{node_members, optional_labels, type_json, unless}
use Rattle.promql_json.specs.Json as spec

no_float_ordering : (o : Ordering) (a b c : Members) → members_have_float a ≡ false → members_have_float b ≡ false → members_have_float c ≡ false → members_have_float (match_ordering o a b c) ≡ false
no_float_ordering Less a b c p q r = p
no_float_ordering Equal a b c p q r = q
no_float_ordering Greater a b c p q r = r

no_float_put : (k : Text) (d : Data) (ms : Members) → has_float d ≡ false → members_have_float ms ≡ false → members_have_float (put k d ms) ≡ false
no_float_put k d no_members p q = or_from (has_float d) false p refl
no_float_put k d (member l e ms) p q =
    let parts = or_parts (has_float e) (members_have_float ms) q in
    no_float_ordering (slice_cmp nat_cmp k l) (member k d (member l e ms)) (member l d ms) (member l e (put k d ms))
    (or_from (has_float d) _ p q) (or_from (has_float d) _ p parts.1) (or_from (has_float e) _ parts.0 (no_float_put k d ms p parts.1))

no_float_list : {A : Type 0} (f : A → Data) → ((a : A) → has_float (f a) ≡ false) → (xs : List A) → items_have_float (items_of (map f xs)) ≡ false
no_float_list f h [] = refl
no_float_list f h (x ∷ xs) = or_from (has_float (f x)) _ (h x) (no_float_list f h xs)

no_float_or_null : {A : Type 0} (f : A → Data) → ((a : A) → has_float (f a) ≡ false) → (o : Option A) → has_float (part.or_null f o) ≡ false
no_float_or_null f h None = refl
no_float_or_null f h (Some a) = h a

no_float_integer : (z : ℤ) → is_float (of_integer z) ≡ false
no_float_integer (pos n) = refl
no_float_integer (negsuc n) = refl

no_float_matcher : (m : PlainMatcher) → has_float (part.matcher_json m) ≡ false
no_float_matcher (plain_matcher op name value) = refl

no_float_labels : (ls : List Text) → has_float (part.labels_json ls) ≡ false
no_float_labels ls = no_float_list text (λ _. refl) ls

no_float_group : (ms : List PlainMatcher) → has_float (part.group_json ms) ≡ false
no_float_group ms = no_float_list part.matcher_json no_float_matcher ms

no_float_groups : (gs : List (List PlainMatcher)) (ms : Members) → members_have_float ms ≡ false → members_have_float (part.with_groups (map part.group_json gs) ms) ≡ false
no_float_groups [] ms h = h
no_float_groups (g ∷ gs) ms h = no_float_put (codes "or_matchers") _ ms (no_float_list part.group_json no_float_group (g ∷ gs)) h

no_float_mode : (mode : RangeMode) (ms : Members) → members_have_float ms ≡ false → members_have_float (part.with_mode mode ms) ≡ false
no_float_mode Plain ms h = h
no_float_mode Smoothed ms h = no_float_put (codes "rangeMode") _ ms refl h
no_float_mode Anchored ms h = no_float_put (codes "rangeMode") _ ms refl h

no_float_cardinality : (c : Cardinality) → has_float (part.cardinality_json c) ≡ false
no_float_cardinality one_to_one = refl
no_float_cardinality (many_to_one ls) = or_from (has_float (part.labels_json ls)) false (no_float_labels ls) refl
no_float_cardinality (one_to_many ls) = or_from (has_float (part.labels_json ls)) false (no_float_labels ls) refl
no_float_cardinality many_to_many = refl

-- below: the members in the order of their keys
no_float_fills : (v : Fills) → has_float (part.fills_json v) ≡ false
no_float_fills (fills rhs lhs) = or_from _ _ (no_float_or_null part.number_json (λ _. refl) lhs) (or_from _ _ (no_float_or_null part.number_json (λ _. refl) rhs) refl)

no_float_matching : (m : Matching) → has_float (part.matching_json m) ≡ false
no_float_matching (matching card clause return_bool values) =
    or_from _ _ (no_float_cardinality card) (or_from _ _ (no_float_fills values) (or_from _ _ (no_float_labels (optional_labels clause)) refl))

no_float_start_or_end : (m : Option Moment) → has_float (part.start_or_end m) ≡ false
no_float_start_or_end None = refl
no_float_start_or_end (Some at_start) = refl
no_float_start_or_end (Some at_end) = refl
no_float_start_or_end (Some (at_time z)) = refl

no_float_timestamp : (m : Option Moment) → has_float (part.timestamp m) ≡ false
no_float_timestamp None = refl
no_float_timestamp (Some at_start) = refl
no_float_timestamp (Some at_end) = refl
no_float_timestamp (Some (at_time z)) = no_float_integer z

no_float_function : (f : Signature) → has_float (part.function_json f) ≡ false
no_float_function (signature name args variadic gives experimental) =
    or_from _ _ (no_float_list type_json (λ _. refl) args) (or_from _ _ (no_float_integer variadic) refl)

no_float_selector : (s : Selector) → members_have_float (spec.selector_members s) ≡ false
no_float_selector (selector name (plain_matchers plain groups) offset at) =
    no_float_groups groups _ (or_from _ _ (no_float_group plain) (or_from _ _ (no_float_or_null text (λ _. refl) name)
    (or_from _ _ (no_float_integer (part.shift_millis offset)) (or_from _ _ (no_float_start_or_end at) (or_from _ _ (no_float_timestamp at) refl)))))

no_float_typed : (t : Tree) → members_have_float (node_members t) ≡ false → has_float (spec.json_value t) ≡ false
no_float_typed t h = no_float_put (codes "type") _ (node_members t) refl h

mutual
  no_float_node : (t : Tree) → members_have_float (node_members t) ≡ false
  no_float_node (aggregate op e p m) =
      or_from _ _ (no_float_typed e (no_float_node e)) (or_from (has_float (part.labels_json (optional_labels m))) _ (no_float_labels (optional_labels m)) (or_from (has_float (spec.param_json p)) false (no_float_param p) refl))
  no_float_node (unary e) = or_from _ _ (no_float_typed e (no_float_node e)) refl
  no_float_node (binary op l r m) =
      or_from _ _ (no_float_typed l (no_float_node l)) (or_from _ _ (no_float_or_null part.matching_json no_float_matching m) (or_from _ _ (no_float_typed r (no_float_node r)) refl))
  no_float_node (paren e) = or_from _ _ (no_float_typed e (no_float_node e)) refl
  no_float_node (subquery e offset at range step) =
      or_from _ _ (no_float_typed e (no_float_node e)) (or_from _ _ (no_float_integer (part.shift_millis offset)) (or_from _ _ (no_float_integer (part.millis range))
      (or_from _ _ (no_float_start_or_end at) (or_from _ _ (no_float_or_null (λ n. part.whole (part.millis n)) (λ n. no_float_integer (part.millis n)) step) (or_from _ _ (no_float_timestamp at) refl)))))
  no_float_node (number n) = refl
  no_float_node (string s) = refl
  no_float_node (vector s) = no_float_selector s
  no_float_node (matrix s range mode) = no_float_mode mode _ (no_float_put (codes "range") _ (spec.selector_members s) (no_float_integer (part.millis range)) (no_float_selector s))
  no_float_node (call f args) = or_from _ _ (no_float_args args) (or_from _ _ (no_float_function f) refl)
  no_float_node (extension name gives es) = refl

  no_float_param : (p : MaybeTree) → has_float (spec.param_json p) ≡ false
  no_float_param absent = refl
  no_float_param (present e) = no_float_typed e (no_float_node e)

  no_float_args : (ts : Trees) → items_have_float (spec.args_items ts) ≡ false
  no_float_args no_trees = refl
  no_float_args (first_tree e es) = or_from (has_float (spec.json_value e)) _ (no_float_typed e (no_float_node e)) (no_float_args es)

form_value : (f : Option JsonError) (d e : Data) → unless f d ≡ Ok e → e ≡ d
form_value None d e is = cc
form_value (Some x) d e is = absurd cc

pub no_float_of_json : (t : Tree) (d : Data) → spec.json t ≡ Ok d → has_float d ≡ false
no_float_of_json t d is = ap has_float (form_value (spec.first_fault t) (spec.json_value t) d is) ∙ no_float_typed t (no_float_node t)

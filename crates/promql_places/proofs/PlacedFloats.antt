-- A form with places has no float, so its text is known to the byte.
use Rattle.std.proofs.Common.{◌≡◌, Ok, ap, sym, ◌∙◌, false, List, [], ◌∷◌, drop, length, codes, Option, Some, None, Ordering, Less, Equal, Greater, refl}
use Rattle.std.specs.Prelude.{slice_get}
use Rattle.std.specs.Option.{option_or}
use Rattle.std.proofs.lemmas.Bool.{or_parts, or_from}
use Rattle.std.specs.Cmp.Lexicographic.{slice_cmp}
use Rattle.std.specs.Ordering.{nat_cmp, match_ordering}
use Rattle.serde_json.specs.Data.{Data, number as whole_number, unsigned, string as text, Members, no_members, member, put}
use Rattle.serde_json.specs.View.{items_of}
use Rattle.serde_json.specs.Written.{has_float, items_have_float, members_have_float}
use Rattle.promql_text.specs.Texts.{Text}
use Rattle.promql_label.specs.PlainMatchers.{PlainMatcher, plain_matcher, PlainMatchers, plain_matchers}
use Rattle.promql_ast.specs.Selectors.{selector}
use Rattle.promql_ast.specs.Tree.{Tree, aggregate, unary, binary, paren, subquery, number, string, vector, matrix, call, extension, MaybeTree, absent, present, Trees, no_trees, first_tree}
use Rattle.promql_json.specs.Json.{first_fault, json, json_value}
use Rattle.promql_json.specs.FormNames.{node_members, type_name, unless}
use Rattle.promql_json.specs.JsonParts.{list, with_groups}
use Rattle.promql_json.specs.JsonFaults.{args_fault, json_fault, param_fault}
use Rattle.promql_json.specs.declared.error.JsonError.{JsonError}
use Rattle.promql_json.proofs.FaultOrder.{first_met}
use Rattle.promql_json.proofs.NoFloat.{no_float_of_json}
use Rattle.promql_span.specs.declared.span.Span.{Span}
use Rattle.promql_places.specs.PlacedForms.{NodePlace, matcher_places, placed_args, placed_groups, placed_matcher, placed_matchers, placed_node, placed_param, with_placed, with_placed_matchers}
use Rattle.promql_places.specs.PlacedFormSteps.{node_count, param_count, placed_value}

one_of : (o : Ordering) (a b c : Members) → members_have_float a ≡ false → members_have_float b ≡ false → members_have_float c ≡ false → members_have_float (match_ordering o a b c) ≡ false
one_of Less a b c p q r = p
one_of Equal a b c p q r = q
one_of Greater a b c p q r = r

none_put : (k : Text) (d : Data) (ms : Members) → has_float d ≡ false → members_have_float ms ≡ false → members_have_float (put k d ms) ≡ false
none_put k d no_members p q = or_from (has_float d) false p refl
none_put k d (member l e ms) p q =
    let parts = or_parts (has_float e) (members_have_float ms) q in
    one_of (slice_cmp nat_cmp k l) (member k d (member l e ms)) (member l d ms) (member l e (put k d ms))
    (or_from (has_float d) _ p q) (or_from (has_float d) _ p parts.1) (or_from (has_float e) _ parts.0 (none_put k d ms p parts.1))

none_in_matcher : (p : Option Span) (m : PlainMatcher) → has_float (placed_matcher p m) ≡ false
none_in_matcher None (plain_matcher op name value) = refl
none_in_matcher (Some p) (plain_matcher op name value) = refl

none_in_matchers : (ms : List PlainMatcher) (ps : List Span) → items_have_float (items_of (placed_matchers ms ps)) ≡ false
none_in_matchers [] ps = refl
none_in_matchers (m ∷ ms) ps = or_from _ _ (none_in_matcher (slice_get ps 0) m) (none_in_matchers ms (drop 1 ps))

none_in_groups : (gs : List (List PlainMatcher)) (ps : List Span) → items_have_float (items_of (placed_groups gs ps)) ≡ false
none_in_groups [] ps = refl
none_in_groups (g ∷ gs) ps = or_from _ _ (none_in_matchers g ps) (none_in_groups gs (drop (length g) ps))

with_groups_none : (gs : List (List PlainMatcher)) (ps : List Span) (ms : Members) → members_have_float ms ≡ false → members_have_float (with_groups (placed_groups gs ps) ms) ≡ false
with_groups_none [] ps ms h = h
with_groups_none (g ∷ gs) ps ms h = none_put (codes "or_matchers") _ ms (none_in_groups (g ∷ gs) ps) h

with_matchers_none : (cs : PlainMatchers) (ps : List Span) (ms : Members) → members_have_float ms ≡ false → members_have_float (with_placed_matchers cs ps ms) ≡ false
with_matchers_none (plain_matchers plain groups) ps ms h =
    with_groups_none groups (drop (length plain) ps) _ (none_put (codes "matchers") _ ms (none_in_matchers plain ps) h)

both_none : (a b : Option JsonError) → option_or a b ≡ None → (a ≡ None) × (b ≡ None)
both_none None b h = (refl, h)
both_none (Some e) b h = absurd cc

form_none : (t : Tree) → json_fault t ≡ None → has_float (json_value t) ≡ false
form_none t fits = no_float_of_json t (json_value t) (ap (λ f. unless f (json_value t)) (sym (first_met t) ∙ fits))

abbrev KeepsNone : Tree → Type 0
KeepsNone t = (qs : List Span) (ps : List NodePlace) (ms : Members) → members_have_float ms ≡ false → members_have_float (with_placed t qs ps ms) ≡ false

node_none : (t : Tree) → json_fault t ≡ None → KeepsNone t → (ps : List NodePlace) → has_float (placed_node (with_placed t) t ps) ≡ false
node_none t fits inside [] = form_none t fits
node_none t fits inside (p ∷ ps) =
    let form = put (codes "type") (text (type_name t)) (node_members t) in
    let anew = with_placed t (matcher_places p.1) ps form in
    let start = whole_number (unsigned p.0.start) in let end = whole_number (unsigned p.0.end) in
    none_put (codes "start") start (put (codes "end") end anew) refl (none_put (codes "end") end anew refl (inside (matcher_places p.1) ps form (form_none t fits)))

mutual
  keeps_none : (t : Tree) → json_fault t ≡ None → KeepsNone t
  keeps_none (aggregate op e p m) fits qs ps ms h =
      let parts = both_none (param_fault p) (json_fault e) fits in
      none_put (codes "expr") (placed_value e (drop (param_count p) ps)) (put (codes "param") (placed_param p ps) ms)
      (node_none e parts.1 (keeps_none e parts.1) (drop (param_count p) ps)) (none_put (codes "param") (placed_param p ps) ms (param_none p parts.0 ps) h)
  keeps_none (unary e) fits qs ps ms h = none_put (codes "expr") (placed_value e ps) ms (node_none e fits (keeps_none e fits) ps) h
  keeps_none (binary op l r m) fits qs ps ms h =
      let parts = both_none (json_fault l) (json_fault r) fits in
      none_put (codes "rhs") (placed_value r (drop (node_count l) ps)) (put (codes "lhs") (placed_value l ps) ms)
      (node_none r parts.1 (keeps_none r parts.1) (drop (node_count l) ps)) (none_put (codes "lhs") (placed_value l ps) ms (node_none l parts.0 (keeps_none l parts.0) ps) h)
  keeps_none (paren e) fits qs ps ms h = none_put (codes "expr") (placed_value e ps) ms (node_none e fits (keeps_none e fits) ps) h
  keeps_none (subquery e offset at range step) fits qs ps ms h =
      let below = (both_none _ (json_fault e) fits).1 in
      none_put (codes "expr") (placed_value e ps) ms (node_none e below (keeps_none e below) ps) h
  keeps_none (number n) fits qs ps ms h = h
  keeps_none (string s) fits qs ps ms h = h
  keeps_none (vector (selector name cs offset at)) fits qs ps ms h = with_matchers_none cs qs ms h
  keeps_none (matrix (selector name cs offset at) range mode) fits qs ps ms h = with_matchers_none cs qs ms h
  keeps_none (call f ts) fits qs ps ms h = none_put (codes "args") (list (placed_args ts ps)) ms (args_none ts fits ps) h
  keeps_none (extension name gives es) fits qs ps ms h = h

  param_none : (p : MaybeTree) → param_fault p ≡ None → (ps : List NodePlace) → has_float (placed_param p ps) ≡ false
  param_none absent fits ps = refl
  param_none (present e) fits ps = node_none e fits (keeps_none e fits) ps

  args_none : (ts : Trees) → args_fault ts ≡ None → (ps : List NodePlace) → items_have_float (items_of (placed_args ts ps)) ≡ false
  args_none no_trees fits ps = refl
  args_none (first_tree e es) fits ps =
      let parts = both_none (json_fault e) (args_fault es) fits in
      or_from _ _ (node_none e parts.0 (keeps_none e parts.0) ps) (args_none es parts.1 (drop (node_count e) ps))

value_fits : (f : Option JsonError) (d : Data) → unless f d ≡ Ok d → f ≡ None
value_fits None d is = refl
value_fits (Some e) d is = absurd cc

pub no_float_placed : (t : Tree) (ps : List NodePlace) → json t ≡ Ok (json_value t) → has_float (placed_value t ps) ≡ false
no_float_placed t ps is =
    let fits : json_fault t ≡ None = first_met t ∙ value_fits (first_fault t) (json_value t) is in
    node_none t fits (keeps_none t fits) ps

-- A tree's normal form sees what the tree sees.
use Rattle.std.proofs.Common.{◌≡◌, ℕ, refl, ◌∙◌, ap, Bool, true, false, cond, ◌&&◌, Option, Some, None, List, [], ◌∷◌}
use Rattle.std.specs.Prelude.{filter}
use Rattle.std.specs.List.{list_all, list_any}
use Rattle.std.specs.Ordering.{is_gt}
use Rattle.promql_label.specs.PlainMatchers.{PlainMatcher, PlainMatchers, plain_matchers, matcher_text}
use Rattle.promql_label.specs.ReadMatchers.{insert_matcher, sorted_matchers}
use Rattle.promql_label.specs.SortedTexts.{text_order}
use Rattle.promql_kind.specs.Functions.{Signature}
use Rattle.promql_kind.specs.Modifiers.{Clause, Matching, including, excluding, one_to_one, fills, matching, is_grouping}
use Rattle.promql_ast.specs.Normal.{normal_matchers, normal_selector, normal_clause, normal_matched, unless_default, normal_matching, normal, maybe_normal, all_normal}
use Rattle.promql_ast.specs.Selectors.{Selector, selector}
use Rattle.promql_ast.specs.Tree.{Tree, aggregate, unary, binary, paren, subquery, number, string, vector, matrix, call, extension, MaybeTree, absent, present, Trees, no_trees, first_tree}
use Rattle.promql_ast.specs.declared.range_mode.RangeMode.{RangeMode}
use Rattle.promql_ast.proofs.normal_form.NormalForms.{normal_twice}
use Rattle.promql_rewrite.specs.Enforcing.{is_info}
use Rattle.promql_rewrite.specs.Selecting.{Series, allows, allow_all, has_name, matchers_select, selects}
use Rattle.promql_meaning.specs.Stores.{Stored, Store, read}
use Rattle.promql_meaning.specs.Seen.{joined, aggregated, negated, operated, stepped, instants, ranges, called, extended, none_seen, first_seen, seen, maybe_seen, all_seen, matchers, nothing, beside, info_beside, is_absent, matchers_in}
use Rattle.promql_meaning.proofs.SeenClauses.{instants_of, ranges_of, matchers_in_first, grouped, matched}

-- ---- matchers in another order

and_swap : (a b c : Bool) → a && (b && c) ≡ b && (a && c)
and_swap true b c = refl
and_swap false true c = refl
and_swap false false c = refl

inserted_hold : (p : PlainMatcher → Bool) (c : PlainMatcher) (ds : List PlainMatcher) → list_all p (insert_matcher c ds) ≡ p c && list_all p ds
inserted_hold p c [] = refl
inserted_hold p c (d ∷ ds) = go (is_gt (text_order (matcher_text c) (matcher_text d))) (inserted_hold p c ds)
  where
    go : (b : Bool) → list_all p (insert_matcher c ds) ≡ p c && list_all p ds
        → list_all p (cond b (d ∷ insert_matcher c ds) (c ∷ d ∷ ds)) ≡ p c && (p d && list_all p ds)
    go true h = ap (λ b. p d && b) h ∙ and_swap (p d) (p c) (list_all p ds)
    go false h = refl

sorted_hold : (p : PlainMatcher → Bool) (cs : List PlainMatcher) → list_all p (sorted_matchers cs) ≡ list_all p cs
sorted_hold p [] = refl
sorted_hold p (c ∷ cs) = inserted_hold p c (sorted_matchers cs) ∙ ap (λ b. p c && b) (sorted_hold p cs)

normal_select : (cs : PlainMatchers) (series : Series) → matchers_select (normal_matchers cs) series ≡ matchers_select cs series
normal_select (plain_matchers cs []) series = sorted_hold (λ c. allows c series) cs
normal_select (plain_matchers cs (g ∷ gs)) series = ap (λ b. b && list_any (λ g. allow_all g series) (g ∷ gs)) (sorted_hold (λ c. allows c series) cs)

selects_normal : (s : Selector) (series : Series) → selects (normal_selector s) series ≡ selects s series
selects_normal (selector name cs offset at) series = ap (λ b. has_name name series && b) (normal_select cs series)

-- ---- modifiers

grouped_normal : (m : Option Clause) → grouped (normal_clause m) ≡ grouped m
grouped_normal None = refl
grouped_normal (Some (including [])) = refl
grouped_normal (Some (including (l ∷ ls))) = refl
grouped_normal (Some (excluding ls)) = refl

matched_normal : (b : Bool) (m : Option Clause) → matched (normal_matched b m) ≡ matched m
matched_normal true m = refl
matched_normal false None = refl
matched_normal false (Some (including ls)) = refl
matched_normal false (Some (excluding [])) = refl
matched_normal false (Some (excluding (l ∷ ls))) = refl

joined_unless : (m : Matching) → joined (unless_default m) ≡ joined (Some m)
joined_unless (matching one_to_one None false (fills None None)) = refl
joined_unless _ = refl

joined_normal : (m : Option Matching) → joined (normal_matching m) ≡ joined m
joined_normal None = refl
joined_normal (Some (matching card clause return_bool values)) =
    joined_unless (matching card (normal_matched (is_grouping card) clause) return_bool values)
    ∙ ap (λ c. matching card (Some c) return_bool values) (matched_normal (is_grouping card) clause)

-- ---- what a call sees beside its arguments

abbrev selector_within : Tree → PlainMatchers → PlainMatchers
selector_within (vector (selector name cs offset at)) _ = cs
selector_within _ cs = cs

-- the normal form of matchers is its own
of_normal : (cs : PlainMatchers) → matchers (normal_matchers (normal_matchers cs)) ≡ matchers (normal_matchers cs)
of_normal cs = ap (λ t. matchers (selector_within t cs)) (normal_twice (vector (selector None cs None None)))

in_normal : (t : Tree) → matchers_in (normal t) ≡ matchers_in t
in_normal (aggregate op e p m) = refl
in_normal (unary e) = refl
in_normal (binary op l r m) = refl
in_normal (paren e) = in_normal e
in_normal (subquery e offset at range step) = refl
in_normal (number n) = refl
in_normal (string s) = refl
in_normal (vector (selector name cs offset at)) = of_normal cs
in_normal (matrix (selector name cs offset at) range mode) = of_normal cs
in_normal (call f args) = refl
in_normal (extension name gives es) = refl

first_in_normal : (args : Trees) → matchers_in_first (all_normal args) ≡ matchers_in_first args
first_in_normal no_trees = refl
first_in_normal (first_tree e es) = in_normal e

-- ---- trees

module _ (store : Store) where
  info_normal : (args : Trees) → info_beside store (all_normal args) ≡ info_beside store args
  info_normal no_trees = refl
  info_normal (first_tree e no_trees) = refl
  info_normal (first_tree e (first_tree labels es)) = in_normal labels

  beside_normal : (f : Signature) (args : Trees) → beside store f (all_normal args) ≡ beside store f args
  beside_normal f args = λ i. cond (is_absent f) (first_in_normal args i) (cond (is_info f) (info_normal args i) nothing)

  read_normal : (s : Selector) → read (normal_selector s) store ≡ read s store
  read_normal s =
      let tests : ◌≡◌ {A = Stored → Bool} (λ x. selects (normal_selector s) x.labels) (λ x. selects s x.labels) = λ i x. selects_normal s x.labels i in
      ap (λ f. filter f store) tests

  instants_normal : (s : Selector) → instants_of store (normal_selector s) ≡ instants_of store s
  instants_normal (selector name cs offset at) = ap (λ r. instants r offset at) (read_normal (selector name cs offset at))

  ranges_normal : (s : Selector) (range : ℕ) (mode : RangeMode) → ranges_of store (normal_selector s) range mode ≡ ranges_of store s range mode
  ranges_normal (selector name cs offset at) range mode = ap (λ r. ranges r offset at range mode) (read_normal (selector name cs offset at))

  mutual
    pub seen_normal : (t : Tree) → seen store (normal t) ≡ seen store t
    seen_normal (aggregate op e p m) = λ i. aggregated op (seen_normal e i) (maybe_seen_normal p i) (grouped_normal m i)
    seen_normal (unary e) = λ i. negated (seen_normal e i)
    seen_normal (binary op l r m) = λ i. operated op (seen_normal l i) (seen_normal r i) (joined_normal m i)
    seen_normal (paren e) = seen_normal e
    seen_normal (subquery e offset at range step) = λ i. stepped (seen_normal e i) offset at range step
    seen_normal (number n) = refl
    seen_normal (string s) = refl
    seen_normal (vector s) = instants_normal s
    seen_normal (matrix s range mode) = ranges_normal s range mode
    seen_normal (call f args) = λ i. called f (beside_normal f args i) (all_seen_normal args i)
    seen_normal (extension name gives es) = λ i. extended name gives (all_seen_normal es i)

    maybe_seen_normal : (p : MaybeTree) → maybe_seen store (maybe_normal p) ≡ maybe_seen store p
    maybe_seen_normal absent = refl
    maybe_seen_normal (present e) = λ i. first_seen (seen_normal e i) none_seen

    all_seen_normal : (es : Trees) → all_seen store (all_normal es) ≡ all_seen store es
    all_seen_normal no_trees = refl
    all_seen_normal (first_tree e es) = λ i. first_seen (seen_normal e i) (all_seen_normal es i)

-- Over a store in which a label has another name, a query that has the other name sees what the query saw.
use Rattle.std.proofs.Common.{◌≡◌, ◌≢◌, ℕ, refl, ap, ◌∙◌, sym, Bool, true, false, cond, ◌||◌, [], ◌∷◌, Option, Some, None, option_map, codes}
use Rattle.std.specs.List.{list_any}
use Rattle.promql_text.specs.Texts.{Text}
use Rattle.promql_kind.specs.Modifiers.{Cardinality, Clause, Matching, including, excluding, matching, one_to_one, many_to_one, one_to_many, many_to_many}
use Rattle.promql_ast.specs.Selectors.{Selector, selector}
use Rattle.promql_ast.specs.Tree.{Tree, aggregate, unary, binary, paren, subquery, number, string, vector, matrix, call, extension, MaybeTree, absent, present, Trees, no_trees, first_tree}
use Rattle.promql_ast.specs.declared.range_mode.RangeMode.{RangeMode}
use Rattle.promql_rewrite.specs.Collecting.{nodes_of, maybe_nodes, all_nodes}
use Rattle.promql_rewrite.specs.Enforcing.{is_info}
use Rattle.promql_rewrite.specs.Renaming.{Renaming, all_renamed, maybe_renamed, of_label, of_metric, renamed, renamed_cardinality, renamed_clause, renamed_matching, renamed_selector, replaced}
use Rattle.promql_rewrite.specs.Selecting.{selects}
use Rattle.promql_rewrite.proofs.renamed.RenamedSeries.{label_selects}
use Rattle.promql_meaning.specs.Stores.{Store, Stored, read}
use Rattle.promql_meaning.specs.Seen.{joined, aggregated, negated, operated, stepped, instants, ranges, called, extended, none_seen, first_seen, seen, maybe_seen, all_seen, is_absent, nothing, sees_beside, has_call_that_sees_beside}
use Rattle.promql_meaning.proofs.SeenClauses.{instants_of, ranges_of, grouped, matched}
use Rattle.promql_meaning.specs.Relabeled.{all_relabeled, relabeled, under_old_name}
use Rattle.promql_meaning.proofs.NoNodes.{neither, none_apart}
use Rattle.promql_meaning.proofs.SeenAtHome.{sees_nothing_beside}

-- ---- a renaming of metrics leaves labels alone

abbrev none : Renaming
none = of_metric [] []

same_clause : (c : Clause) → renamed_clause none c ≡ c
same_clause (including ls) = refl
same_clause (excluding ls) = refl

same_cardinality : (card : Cardinality) → renamed_cardinality none card ≡ card
same_cardinality one_to_one = refl
same_cardinality (many_to_one ls) = refl
same_cardinality (one_to_many ls) = refl
same_cardinality many_to_many = refl

same_optional : (c : Option Clause) → option_map (renamed_clause none) c ≡ c
same_optional None = refl
same_optional (Some c) = ap (λ c. Some c) (same_clause c)

same_joining : (m : Matching) → renamed_matching none m ≡ m
same_joining (matching card clause return_bool values) = λ i. matching (same_cardinality card i) (same_optional clause i) return_bool values

module _ (from to : Text) (old : from ≢ codes "__name__") where
  abbrev r : Renaming
  r = of_label from to

  abbrev before : Store → Store
  before = under_old_name from to

  abbrev as_they_are : Store → Store
  as_they_are xs = xs

  -- ---- clauses

  group_renamed : (m : Option Clause) → renamed_clause none (grouped (option_map (renamed_clause r) m)) ≡ renamed_clause r (grouped m)
  group_renamed None = refl
  group_renamed (Some c) = same_clause (renamed_clause r c)

  match_renamed : (m : Option Clause) → matched (option_map (renamed_clause r) m) ≡ renamed_clause r (matched m)
  match_renamed None = refl
  match_renamed (Some c) = refl

  join_renamed : (m : Option Matching) → renamed_matching none (joined (option_map (renamed_matching r) m)) ≡ renamed_matching r (joined m)
  join_renamed None = refl
  join_renamed (Some (matching card clause return_bool values)) =
      same_joining (matching (renamed_cardinality r card) (Some (matched (option_map (renamed_clause r) clause))) return_bool values)
      ∙ ap (λ c. matching (renamed_cardinality r card) (Some c) return_bool values) (match_renamed clause)

  -- ---- selectors

  abbrev before_one : Stored → Stored
  before_one x = record { labels = λ l. x.labels (replaced from to l); samples = x.samples }

  first_kept : (x : Stored) (b a : Bool) (xs ys : Store) → b ≡ a → before xs ≡ ys → before (cond b (x ∷ xs) xs) ≡ cond a (before_one x ∷ ys) ys
  first_kept x true a xs ys same rest = (λ i. before_one x ∷ rest i) ∙ ap (λ a. cond a (before_one x ∷ ys) ys) same
  first_kept x false a xs ys same rest = rest ∙ ap (λ a. cond a (before_one x ∷ ys) ys) same

  reads_renamed : (s : Selector) (store : Store) → before (read (renamed_selector r s) store) ≡ read s (before store)
  reads_renamed s [] = refl
  reads_renamed s (x ∷ xs) =
      first_kept x (selects (renamed_selector r s) x.labels) (selects s (before_one x).labels) (read (renamed_selector r s) xs) (read s (before xs))
      (label_selects from to x.labels old s) (reads_renamed s xs)

  instants_renamed : (store : Store) (s : Selector) → relabeled before none (instants_of store (renamed_selector r s)) ≡ relabeled as_they_are r (instants_of (before store) s)
  instants_renamed store (selector name cs offset at) = ap (λ xs. instants xs offset at) (reads_renamed (selector name cs offset at) store)

  ranges_renamed : (store : Store) (s : Selector) (range : ℕ) (mode : RangeMode) → relabeled before none (ranges_of store (renamed_selector r s) range mode) ≡ relabeled as_they_are r (ranges_of (before store) s range mode)
  ranges_renamed store (selector name cs offset at) range mode = ap (λ xs. ranges xs offset at range mode) (reads_renamed (selector name cs offset at) store)

  -- ---- trees

  module _ (store : Store) where
    mutual
      pub seen_renamed : (t : Tree) → has_call_that_sees_beside t ≡ false → relabeled before none (seen store (renamed r t)) ≡ relabeled as_they_are r (seen (before store) t)
      seen_renamed (aggregate op e p m) h =
          let parts = none_apart sees_beside (maybe_nodes p) (nodes_of e) h in
          λ i. aggregated op (seen_renamed e parts.1 i) (maybe_seen_renamed p parts.0 i) (group_renamed m i)
      seen_renamed (unary e) h = ap negated (seen_renamed e h)
      seen_renamed (binary op x y m) h =
          let parts = none_apart sees_beside (nodes_of x) (nodes_of y) h in
          λ i. operated op (seen_renamed x parts.0 i) (seen_renamed y parts.1 i) (join_renamed m i)
      seen_renamed (paren e) h = seen_renamed e h
      seen_renamed (subquery e offset at range step) h = ap (λ e. stepped e offset at range step) (seen_renamed e h)
      seen_renamed (number n) h = refl
      seen_renamed (string s) h = refl
      seen_renamed (vector s) h = instants_renamed store s
      seen_renamed (matrix s range mode) h = ranges_renamed store s range mode
      seen_renamed (call f args) h =
          let parts = neither (is_absent f || is_info f) (list_any sees_beside (all_nodes args)) h in
          ap (λ b. called f b (all_relabeled before none (all_seen store (all_renamed r args)))) (sees_nothing_beside store f (all_renamed r args) parts.0)
          ∙ ap (called f nothing) (all_seen_renamed args parts.1)
          ∙ ap (λ b. called f b (all_relabeled as_they_are r (all_seen (before store) args))) (sym (sees_nothing_beside (before store) f args parts.0))
      seen_renamed (extension name gives es) h = ap (extended name gives) (all_seen_renamed es h)

      maybe_seen_renamed : (p : MaybeTree) → list_any sees_beside (maybe_nodes p) ≡ false → all_relabeled before none (maybe_seen store (maybe_renamed r p)) ≡ all_relabeled as_they_are r (maybe_seen (before store) p)
      maybe_seen_renamed absent h = refl
      maybe_seen_renamed (present e) h = ap (λ x. first_seen x none_seen) (seen_renamed e h)

      all_seen_renamed : (es : Trees) → list_any sees_beside (all_nodes es) ≡ false → all_relabeled before none (all_seen store (all_renamed r es)) ≡ all_relabeled as_they_are r (all_seen (before store) es)
      all_seen_renamed no_trees h = refl
      all_seen_renamed (first_tree e es) h =
          let parts = none_apart sees_beside (nodes_of e) (all_nodes es) h in
          λ i. first_seen (seen_renamed e parts.0 i) (all_seen_renamed es parts.1 i)

-- The names of a renamed tree are those of the tree, renamed.
use Rattle.std.proofs.Common.{◌≡◌, ◌≢◌, refl, sym, ◌∙◌, ap, Bool, true, false, cond, not, Option, Some, None, List, [], ◌∷◌, ◌++◌, map, codes}
use Rattle.std.specs.Prelude.{filter, option_map, option_to_list, unwrap_or}
use Rattle.std.specs.List.{flat_map}
use Rattle.std.proofs.lemmas.List.{map-append, map-id}
use Rattle.promql_text.specs.Texts.{Text}
use Rattle.promql_label.specs.PlainMatchers.{PlainMatcher, plain_matcher, equal, not_equal, matches, matches_not, every, name_of, value_of}
use Rattle.promql_kind.specs.Modifiers.{Cardinality, one_to_one, many_to_one, one_to_many, many_to_many, Clause, including, excluding, clause_labels, grouping, Matching, matching}
use Rattle.promql_ast.specs.Selectors.{Selector, selector}
use Rattle.promql_ast.specs.Tree.{Tree, aggregate, unary, binary, paren, subquery, number, string, vector, matrix, call, extension, MaybeTree, absent, present, Trees, no_trees, first_tree}
use Rattle.promql_rewrite.specs.Collecting.{all_nodes, is_label_matcher, is_metric_name, from_nodes, matching_labels, maybe_nodes, nodes_of, nodes_within, own_functions, own_labels, own_metrics, selector_labels, selector_metrics}
use Rattle.promql_rewrite.specs.Renaming.{Renaming, of_label, of_metric, all_renamed, maybe_renamed, renamed, renamed_cardinality, renamed_clause, renamed_matcher, renamed_matching, renamed_selector, replaced}
use Rattle.promql_rewrite.proofs.renamed.RenamedSelectors.{every_renamed, same_of}

-- ---- nodes

module _ (r : Renaming) where
  mutual
    within_renamed : (t : Tree) → nodes_within (renamed r t) ≡ map (renamed r) (nodes_within t)
    within_renamed (aggregate op e p m) = (λ i. maybe_nodes_renamed p i ++ (renamed r e ∷ within_renamed e i)) ∙ sym (map-append (renamed r) (maybe_nodes p) (nodes_of e))
    within_renamed (unary e) = λ i. renamed r e ∷ within_renamed e i
    within_renamed (binary op x y m) = (λ i. (renamed r x ∷ within_renamed x i) ++ (renamed r y ∷ within_renamed y i)) ∙ sym (map-append (renamed r) (nodes_of x) (nodes_of y))
    within_renamed (paren e) = λ i. renamed r e ∷ within_renamed e i
    within_renamed (subquery e offset at range step) = λ i. renamed r e ∷ within_renamed e i
    within_renamed (number n) = refl
    within_renamed (string s) = refl
    within_renamed (vector s) = refl
    within_renamed (matrix s range mode) = refl
    within_renamed (call f ts) = all_nodes_renamed ts
    within_renamed (extension name gives ts) = all_nodes_renamed ts

    maybe_nodes_renamed : (p : MaybeTree) → maybe_nodes (maybe_renamed r p) ≡ map (renamed r) (maybe_nodes p)
    maybe_nodes_renamed absent = refl
    maybe_nodes_renamed (present e) = λ i. renamed r e ∷ within_renamed e i

    all_nodes_renamed : (ts : Trees) → all_nodes (all_renamed r ts) ≡ map (renamed r) (all_nodes ts)
    all_nodes_renamed no_trees = refl
    all_nodes_renamed (first_tree t ts) = (λ i. (renamed r t ∷ within_renamed t i) ++ all_nodes_renamed ts i) ∙ sym (map-append (renamed r) (nodes_of t) (all_nodes ts))

  nodes_renamed : (t : Tree) → nodes_of (renamed r t) ≡ map (renamed r) (nodes_of t)
  nodes_renamed t = ap (λ ts. renamed r t ∷ ts) (within_renamed t)

  -- of each node the names with h
  module _ (own : Tree → List Text) (h : Text → Text) (each : (t : Tree) → own (renamed r t) ≡ map h (own t)) where
    of_nodes : (ts : List Tree) → flat_map own (map (renamed r) ts) ≡ map h (flat_map own ts)
    of_nodes [] = refl
    of_nodes (t ∷ ts) = (λ i. each t i ++ of_nodes ts i) ∙ sym (map-append h (own t) (flat_map own ts))

    of_tree : (t : Tree) → flat_map own (nodes_of (renamed r t)) ≡ map h (flat_map own (nodes_of t))
    of_tree t = ap (flat_map own) (nodes_renamed t) ∙ of_nodes (nodes_of t)

  -- of matchers that pass a test
  module _ (view : PlainMatcher → Text) (p : PlainMatcher → Bool) (h : Text → Text) (same : (c : PlainMatcher) → p (renamed_matcher r c) ≡ p c) (viewed : (c : PlainMatcher) → p c ≡ true → view (renamed_matcher r c) ≡ h (view c)) where
    picked : (cs : List PlainMatcher) → map view (filter p (map (renamed_matcher r) cs)) ≡ map h (map view (filter p cs))
    picked [] = refl
    picked (c ∷ cs) =
        ap (λ b. map view (cond b (renamed_matcher r c ∷ filter p (map (renamed_matcher r) cs)) (filter p (map (renamed_matcher r) cs)))) (same c) ∙ go (p c) refl (picked cs)
      where
        go : (b : Bool) → p c ≡ b → map view (filter p (map (renamed_matcher r) cs)) ≡ map h (map view (filter p cs))
            → map view (cond b (renamed_matcher r c ∷ filter p (map (renamed_matcher r) cs)) (filter p (map (renamed_matcher r) cs))) ≡ map h (map view (cond b (c ∷ filter p cs) (filter p cs)))
        go true is rest = λ i. viewed c is i ∷ rest i
        go false is rest = rest

pub functions_renamed : (r : Renaming) (t : Tree) → from_nodes own_functions (renamed r t) ≡ from_nodes own_functions t
functions_renamed r t = of_tree r own_functions (λ x. x) each t ∙ map-id (from_nodes own_functions t)
  where
    each : (t : Tree) → own_functions (renamed r t) ≡ map (λ x. x) (own_functions t)
    each (aggregate op e p m) = refl
    each (unary e) = refl
    each (binary op x y m) = refl
    each (paren e) = refl
    each (subquery e offset at range step) = refl
    each (number n) = refl
    each (string s) = refl
    each (vector s) = refl
    each (matrix s range mode) = refl
    each (call f ts) = refl
    each (extension name gives ts) = refl

-- ---- a metric by another name

module _ (from to : Text) where
  metric_same : (c : PlainMatcher) → is_metric_name (renamed_matcher (of_metric from to) c) ≡ is_metric_name c
  metric_same (plain_matcher equal name value) = refl
  metric_same (plain_matcher not_equal name value) = refl
  metric_same (plain_matcher (matches w) name value) = refl
  metric_same (plain_matcher (matches_not w) name value) = refl

  metric_viewed : (c : PlainMatcher) → is_metric_name c ≡ true → value_of (renamed_matcher (of_metric from to) c) ≡ replaced from to (value_of c)
  metric_viewed (plain_matcher op name value) is = ap (λ b. cond b (replaced from to value) value) is

  named_metric : (o : Option Text) → option_to_list (option_map (replaced from to) o) ≡ map (replaced from to) (option_to_list o)
  named_metric None = refl
  named_metric (Some name) = refl

  selector_metric : (s : Selector) → selector_metrics (renamed_selector (of_metric from to) s) ≡ map (replaced from to) (selector_metrics s)
  selector_metric (selector name cs offset at) =
      (λ i. named_metric name i ++ (ap (λ ds. map value_of (filter is_metric_name ds)) (every_renamed (of_metric from to) cs) ∙ picked (of_metric from to) value_of is_metric_name (replaced from to) metric_same metric_viewed (every cs)) i)
      ∙ sym (map-append (replaced from to) (option_to_list name) (map value_of (filter is_metric_name (every cs))))

  pub metrics_renamed : (t : Tree) → from_nodes own_metrics (renamed (of_metric from to) t) ≡ map (replaced from to) (from_nodes own_metrics t)
  metrics_renamed t = of_tree (of_metric from to) own_metrics (replaced from to) each t
    where
      each : (t : Tree) → own_metrics (renamed (of_metric from to) t) ≡ map (replaced from to) (own_metrics t)
      each (aggregate op e p m) = refl
      each (unary e) = refl
      each (binary op x y m) = refl
      each (paren e) = refl
      each (subquery e offset at range step) = refl
      each (number n) = refl
      each (string s) = refl
      each (vector s) = selector_metric s
      each (matrix s range mode) = selector_metric s
      each (call f ts) = refl
      each (extension name gives ts) = refl

-- ---- a label by another name

module _ (from to : Text) (old : from ≢ codes "__name__") (new : to ≢ codes "__name__") where
  label_same : (c : PlainMatcher) → is_label_matcher (renamed_matcher (of_label from to) c) ≡ is_label_matcher c
  label_same c = ap not (same_of from to old new c)

  label_viewed : (c : PlainMatcher) → is_label_matcher c ≡ true → name_of (renamed_matcher (of_label from to) c) ≡ replaced from to (name_of c)
  label_viewed (plain_matcher op name value) is = refl

  clause_renamed : (k : Option Clause) → unwrap_or (option_map clause_labels (option_map (renamed_clause (of_label from to)) k)) [] ≡ map (replaced from to) (unwrap_or (option_map clause_labels k) [])
  clause_renamed None = refl
  clause_renamed (Some (including ls)) = refl
  clause_renamed (Some (excluding ls)) = refl

  card_renamed : (k : Cardinality) → unwrap_or (grouping (renamed_cardinality (of_label from to) k)) [] ≡ map (replaced from to) (unwrap_or (grouping k) [])
  card_renamed one_to_one = refl
  card_renamed (many_to_one ls) = refl
  card_renamed (one_to_many ls) = refl
  card_renamed many_to_many = refl

  modifier_renamed : (m : Option Matching) → unwrap_or (option_map matching_labels (option_map (renamed_matching (of_label from to)) m)) [] ≡ map (replaced from to) (unwrap_or (option_map matching_labels m) [])
  modifier_renamed None = refl
  modifier_renamed (Some (matching card clause return_bool values)) =
      (λ i. clause_renamed clause i ++ card_renamed card i) ∙ sym (map-append (replaced from to) (unwrap_or (option_map clause_labels clause) []) (unwrap_or (grouping card) []))

  selector_label : (s : Selector) → selector_labels (renamed_selector (of_label from to) s) ≡ map (replaced from to) (selector_labels s)
  selector_label (selector name cs offset at) =
      ap (λ ds. map name_of (filter is_label_matcher ds)) (every_renamed (of_label from to) cs) ∙ picked (of_label from to) name_of is_label_matcher (replaced from to) label_same label_viewed (every cs)

  pub labels_renamed : (t : Tree) → from_nodes own_labels (renamed (of_label from to) t) ≡ map (replaced from to) (from_nodes own_labels t)
  labels_renamed t = of_tree (of_label from to) own_labels (replaced from to) each t
    where
      each : (t : Tree) → own_labels (renamed (of_label from to) t) ≡ map (replaced from to) (own_labels t)
      each (aggregate op e p m) = clause_renamed m
      each (unary e) = refl
      each (binary op x y m) = modifier_renamed m
      each (paren e) = refl
      each (subquery e offset at range step) = refl
      each (number n) = refl
      each (string s) = refl
      each (vector s) = selector_label s
      each (matrix s range mode) = selector_label s
      each (call f ts) = refl
      each (extension name gives ts) = refl

-- ---- the metrics where a label is renamed

module _ (from to : Text) (old : from ≢ codes "__name__") (new : to ≢ codes "__name__") where
  kept_test : (c : PlainMatcher) → is_metric_name (renamed_matcher (of_label from to) c) ≡ is_metric_name c
  kept_test (plain_matcher equal name value) = same_of from to old new (plain_matcher equal name value)
  kept_test (plain_matcher not_equal name value) = refl
  kept_test (plain_matcher (matches w) name value) = refl
  kept_test (plain_matcher (matches_not w) name value) = refl

  kept_value : (c : PlainMatcher) → is_metric_name c ≡ true → value_of (renamed_matcher (of_label from to) c) ≡ value_of c
  kept_value (plain_matcher op name value) is = refl

  kept_metrics : (s : Selector) → selector_metrics (renamed_selector (of_label from to) s) ≡ map (λ x. x) (selector_metrics s)
  kept_metrics (selector name cs offset at) =
      let values : List Text = map value_of (filter is_metric_name (every cs)) in
      ap (λ xs. option_to_list name ++ xs)
      (ap (λ ds. map value_of (filter is_metric_name ds)) (every_renamed (of_label from to) cs) ∙ picked (of_label from to) value_of is_metric_name (λ x. x) kept_test kept_value (every cs) ∙ map-id values)
      ∙ sym (map-id (option_to_list name ++ values))

  pub metrics_kept : (t : Tree) → from_nodes own_metrics (renamed (of_label from to) t) ≡ from_nodes own_metrics t
  metrics_kept t = of_tree (of_label from to) own_metrics (λ x. x) each t ∙ map-id (from_nodes own_metrics t)
    where
      each : (t : Tree) → own_metrics (renamed (of_label from to) t) ≡ map (λ x. x) (own_metrics t)
      each (aggregate op e p m) = refl
      each (unary e) = refl
      each (binary op x y m) = refl
      each (paren e) = refl
      each (subquery e offset at range step) = refl
      each (number n) = refl
      each (string s) = refl
      each (vector s) = kept_metrics s
      each (matrix s range mode) = kept_metrics s
      each (call f ts) = refl
      each (extension name gives ts) = refl

-- ---- the labels where a metric is renamed

module _ (from to : Text) where
  same_test : (c : PlainMatcher) → is_label_matcher (renamed_matcher (of_metric from to) c) ≡ is_label_matcher c
  same_test (plain_matcher op name value) = refl

  same_label : (c : PlainMatcher) → is_label_matcher c ≡ true → name_of (renamed_matcher (of_metric from to) c) ≡ name_of c
  same_label (plain_matcher op name value) is = refl

  kept_clause : (k : Option Clause) → unwrap_or (option_map clause_labels (option_map (renamed_clause (of_metric from to)) k)) [] ≡ map (λ x. x) (unwrap_or (option_map clause_labels k) [])
  kept_clause None = refl
  kept_clause (Some (including ls)) = sym (map-id ls)
  kept_clause (Some (excluding ls)) = sym (map-id ls)

  kept_card : (k : Cardinality) → unwrap_or (grouping (renamed_cardinality (of_metric from to) k)) [] ≡ map (λ x. x) (unwrap_or (grouping k) [])
  kept_card one_to_one = refl
  kept_card (many_to_one ls) = sym (map-id ls)
  kept_card (one_to_many ls) = sym (map-id ls)
  kept_card many_to_many = refl

  kept_modifier : (m : Option Matching) → unwrap_or (option_map matching_labels (option_map (renamed_matching (of_metric from to)) m)) [] ≡ map (λ x. x) (unwrap_or (option_map matching_labels m) [])
  kept_modifier None = refl
  kept_modifier (Some (matching card clause return_bool values)) =
      (λ i. kept_clause clause i ++ kept_card card i) ∙ sym (map-append (λ x. x) (unwrap_or (option_map clause_labels clause) []) (unwrap_or (grouping card) []))

  kept_labels : (s : Selector) → selector_labels (renamed_selector (of_metric from to) s) ≡ map (λ x. x) (selector_labels s)
  kept_labels (selector name cs offset at) =
      ap (λ ds. map name_of (filter is_label_matcher ds)) (every_renamed (of_metric from to) cs) ∙ picked (of_metric from to) name_of is_label_matcher (λ x. x) same_test same_label (every cs)

  pub labels_kept : (t : Tree) → from_nodes own_labels (renamed (of_metric from to) t) ≡ from_nodes own_labels t
  labels_kept t = of_tree (of_metric from to) own_labels (λ x. x) each t ∙ map-id (from_nodes own_labels t)
    where
      each : (t : Tree) → own_labels (renamed (of_metric from to) t) ≡ map (λ x. x) (own_labels t)
      each (aggregate op e p m) = kept_clause m
      each (unary e) = refl
      each (binary op x y m) = kept_modifier m
      each (paren e) = refl
      each (subquery e offset at range step) = refl
      each (number n) = refl
      each (string s) = refl
      each (vector s) = kept_labels s
      each (matrix s range mode) = kept_labels s
      each (call f ts) = refl
      each (extension name gives ts) = refl

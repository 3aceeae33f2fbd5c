-- A renamed tree is the tree with other names in its parts.
use Rattle.std.proofs.Common.{◌≡◌, Option, Some, None, refl, option_map}
use Rattle.promql_text.specs.Texts.{Text}
use Rattle.promql_label.specs.PlainMatchers.{plain_matchers}
use Rattle.promql_kind.specs.Modifiers.{Cardinality, one_to_one, many_to_one, one_to_many, many_to_many, Clause, including, excluding, Matching, matching}
use Rattle.promql_ast.specs.Mapped.{mapped}
use Rattle.promql_ast.specs.Selectors.{Selector, selector}
use Rattle.promql_ast.specs.Tree.{Tree}
use Rattle.promql_rewrite.specs.RenamedParts.{cardinality_with, clause_with, label_with, matching_with, metric_with, selector_with}
use Rattle.promql_rewrite.specs.Renaming.{of_label, of_metric, renamed, renamed_cardinality, renamed_clause, renamed_matching, renamed_selector, replaced}

module _ (from to : Text) where
  -- ---- of a metric

  pub metric_selector : (s : Selector) → renamed_selector (of_metric from to) s ≡ selector_with (option_map (replaced from to)) (metric_with (replaced from to)) s
  metric_selector (selector name (plain_matchers cs gs) offset at) = refl

  metric_clause : (m : Option Clause) → option_map (renamed_clause (of_metric from to)) m ≡ m
  metric_clause None = refl
  metric_clause (Some (including ls)) = refl
  metric_clause (Some (excluding ls)) = refl

  metric_cardinality : (card : Cardinality) → renamed_cardinality (of_metric from to) card ≡ card
  metric_cardinality one_to_one = refl
  metric_cardinality (many_to_one ls) = refl
  metric_cardinality (one_to_many ls) = refl
  metric_cardinality many_to_many = refl

  metric_matching : (m : Option Matching) → option_map (renamed_matching (of_metric from to)) m ≡ m
  metric_matching None = refl
  metric_matching (Some (matching card clause return_bool values)) =
      λ i. Some (matching (metric_cardinality card i) (metric_clause clause i) return_bool values)

  pub metric_parts : (t : Tree)
      → renamed (of_metric from to) t ≡ mapped (selector_with (option_map (replaced from to)) (metric_with (replaced from to))) (λ m. m) (λ m. m) t
  metric_parts t = λ i. mapped (λ s. metric_selector s i) (λ m. metric_clause m i) (λ m. metric_matching m i) t

  -- ---- of a label

  pub label_selector : (s : Selector) → renamed_selector (of_label from to) s ≡ selector_with (λ n. n) (label_with (replaced from to)) s
  label_selector (selector name (plain_matchers cs gs) offset at) = refl

  label_clause : (m : Option Clause) → option_map (renamed_clause (of_label from to)) m ≡ option_map (clause_with (replaced from to)) m
  label_clause None = refl
  label_clause (Some (including ls)) = refl
  label_clause (Some (excluding ls)) = refl

  label_cardinality : (card : Cardinality) → renamed_cardinality (of_label from to) card ≡ cardinality_with (replaced from to) card
  label_cardinality one_to_one = refl
  label_cardinality (many_to_one ls) = refl
  label_cardinality (one_to_many ls) = refl
  label_cardinality many_to_many = refl

  label_matching : (m : Option Matching) → option_map (renamed_matching (of_label from to)) m ≡ option_map (matching_with (replaced from to)) m
  label_matching None = refl
  label_matching (Some (matching card clause return_bool values)) =
      λ i. Some (matching (label_cardinality card i) (label_clause clause i) return_bool values)

  pub label_parts : (t : Tree) → renamed (of_label from to) t
      ≡ mapped (selector_with (λ n. n) (label_with (replaced from to))) (option_map (clause_with (replaced from to)))
      (option_map (matching_with (replaced from to))) t
  label_parts t = λ i. mapped (λ s. label_selector s i) (λ m. label_clause m i) (λ m. label_matching m i) t

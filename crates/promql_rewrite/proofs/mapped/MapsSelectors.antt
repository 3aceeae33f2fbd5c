-- Enforcing a matcher and renaming a metric change selectors alone.
use Rattle.std.proofs.Common.{◌≡◌, refl, sym, ◌∙◌, ap, Option, Some, None, List, ◌++◌, map}
use Rattle.std.specs.Prelude.{option_map}
use Rattle.std.proofs.lemmas.List.{map-append}
use Rattle.promql_text.specs.Texts.{Text}
use Rattle.promql_label.specs.PlainMatchers.{PlainMatcher}
use Rattle.promql_kind.specs.Modifiers.{Cardinality, one_to_one, many_to_one, one_to_many, many_to_many, Clause, including, excluding, Matching, matching}
use Rattle.promql_ast.specs.Selectors.{Selector}
use Rattle.promql_ast.specs.Tree.{Tree, aggregate, unary, binary, paren, subquery, number, string, vector, matrix, call, extension, MaybeTree, absent, present, Trees, no_trees, first_tree}
use Rattle.promql_rewrite.specs.Enforcing.{all_enforced, enforced, enforced_selector, maybe_enforced}
use Rattle.promql_rewrite.specs.Mapping.{KindedSelector, all_outlines, maybe_outline, outline, selectors_of}
use Rattle.promql_rewrite.specs.MappedSelectors.{arg_selectors, kind_after, param_selectors, selectors_in}
use Rattle.promql_rewrite.specs.Renaming.{of_metric, all_renamed, maybe_renamed, renamed, renamed_cardinality, renamed_clause, renamed_matching, renamed_selector}
use Rattle.promql_rewrite.specs.declared.mapping.SelectorKind.{SelectorKind}
use Rattle.promql_rewrite.specs.declared.mapping.SelectorKind.TheVariants.{Series}
use Rattle.promql_rewrite.proofs.mapped.KindedSelectors.{selectors_are}

-- ---- two lists of selectors of which each is changed

module _ (f : SelectorKind → Selector → Selector) where
  abbrev changed : KindedSelector → KindedSelector
  changed x = (x.0, f x.0 x.1)

  both : (xs ys vs ws : List KindedSelector) → xs ≡ map changed vs → ys ≡ map changed ws → xs ++ ys ≡ map changed (vs ++ ws)
  both xs ys vs ws first second = (λ i. first i ++ second i) ∙ sym (map-append changed vs ws)

-- ---- enforcing

module _ (c : PlainMatcher) where
  mutual
    pub outline_enforced : (t : Tree) → outline (enforced c t) ≡ outline t
    outline_enforced (aggregate op e p m) = λ i. aggregate op (outline_enforced e i) (maybe_outline_enforced p i) m
    outline_enforced (unary e) = λ i. unary (outline_enforced e i)
    outline_enforced (binary op x y m) = λ i. binary op (outline_enforced x i) (outline_enforced y i) m
    outline_enforced (paren e) = λ i. paren (outline_enforced e i)
    outline_enforced (subquery e offset at range step) = λ i. subquery (outline_enforced e i) offset at range step
    outline_enforced (number n) = refl
    outline_enforced (string s) = refl
    outline_enforced (vector s) = refl
    outline_enforced (matrix s range mode) = refl
    outline_enforced (call f ts) = ap (call f) (all_outlines_enforced ts)
    outline_enforced (extension name gives ts) = ap (extension name gives) (all_outlines_enforced ts)

    maybe_outline_enforced : (p : MaybeTree) → maybe_outline (maybe_enforced c p) ≡ maybe_outline p
    maybe_outline_enforced absent = refl
    maybe_outline_enforced (present e) = ap present (outline_enforced e)

    all_outlines_enforced : (ts : Trees) → all_outlines (all_enforced c ts) ≡ all_outlines ts
    all_outlines_enforced no_trees = refl
    all_outlines_enforced (first_tree t ts) = λ i. first_tree (outline_enforced t i) (all_outlines_enforced ts i)

  abbrev with_it : SelectorKind → Selector → Selector
  with_it k s = enforced_selector c s

  mutual
    in_enforced : (k : SelectorKind) (t : Tree) → selectors_in k (enforced c t) ≡ map (changed with_it) (selectors_in k t)
    in_enforced k (aggregate op e p m) =
        both with_it (param_selectors k (maybe_enforced c p)) (selectors_in k (enforced c e)) (param_selectors k p) (selectors_in k e) (param_enforced k p) (in_enforced k e)
    in_enforced k (unary e) = in_enforced k e
    in_enforced k (binary op x y m) =
        both with_it (selectors_in k (enforced c x)) (selectors_in k (enforced c y)) (selectors_in k x) (selectors_in k y) (in_enforced k x) (in_enforced k y)
    in_enforced k (paren e) = in_enforced k e
    in_enforced k (subquery e offset at range step) = in_enforced k e
    in_enforced k (number n) = refl
    in_enforced k (string s) = refl
    in_enforced k (vector s) = refl
    in_enforced k (matrix s range mode) = refl
    in_enforced k (call f ts) = args_enforced k (kind_after f k) ts
    in_enforced k (extension name gives ts) = args_enforced k k ts

    param_enforced : (k : SelectorKind) (p : MaybeTree) → param_selectors k (maybe_enforced c p) ≡ map (changed with_it) (param_selectors k p)
    param_enforced k absent = refl
    param_enforced k (present e) = in_enforced k e

    args_enforced : (k others : SelectorKind) (ts : Trees) → arg_selectors k others (all_enforced c ts) ≡ map (changed with_it) (arg_selectors k others ts)
    args_enforced k others no_trees = refl
    args_enforced k others (first_tree t ts) =
        both with_it (selectors_in k (enforced c t)) (arg_selectors others others (all_enforced c ts)) (selectors_in k t) (arg_selectors others others ts) (in_enforced k t) (args_enforced others others ts)

  pub selectors_enforced : (t : Tree) → selectors_of (enforced c t) ≡ map (changed with_it) (selectors_of t)
  selectors_enforced t = selectors_are (enforced c t) ∙ in_enforced Series t ∙ ap (map (changed with_it)) (sym (selectors_are t))

-- ---- renaming a metric

module _ (from to : Text) where
  same_clause : (k : Option Clause) → option_map (renamed_clause (of_metric from to)) k ≡ k
  same_clause None = refl
  same_clause (Some (including ls)) = refl
  same_clause (Some (excluding ls)) = refl

  same_cardinality : (k : Cardinality) → renamed_cardinality (of_metric from to) k ≡ k
  same_cardinality one_to_one = refl
  same_cardinality (many_to_one ls) = refl
  same_cardinality (one_to_many ls) = refl
  same_cardinality many_to_many = refl

  same_modifier : (m : Option Matching) → option_map (renamed_matching (of_metric from to)) m ≡ m
  same_modifier None = refl
  same_modifier (Some (matching card clause return_bool values)) = λ i. Some (matching (same_cardinality card i) (same_clause clause i) return_bool values)

  mutual
    pub outline_renamed : (t : Tree) → outline (renamed (of_metric from to) t) ≡ outline t
    outline_renamed (aggregate op e p m) = λ i. aggregate op (outline_renamed e i) (maybe_outline_renamed p i) (same_clause m i)
    outline_renamed (unary e) = λ i. unary (outline_renamed e i)
    outline_renamed (binary op x y m) = λ i. binary op (outline_renamed x i) (outline_renamed y i) (same_modifier m i)
    outline_renamed (paren e) = λ i. paren (outline_renamed e i)
    outline_renamed (subquery e offset at range step) = λ i. subquery (outline_renamed e i) offset at range step
    outline_renamed (number n) = refl
    outline_renamed (string s) = refl
    outline_renamed (vector s) = refl
    outline_renamed (matrix s range mode) = refl
    outline_renamed (call f ts) = ap (call f) (all_outlines_renamed ts)
    outline_renamed (extension name gives ts) = ap (extension name gives) (all_outlines_renamed ts)

    maybe_outline_renamed : (p : MaybeTree) → maybe_outline (maybe_renamed (of_metric from to) p) ≡ maybe_outline p
    maybe_outline_renamed absent = refl
    maybe_outline_renamed (present e) = ap present (outline_renamed e)

    all_outlines_renamed : (ts : Trees) → all_outlines (all_renamed (of_metric from to) ts) ≡ all_outlines ts
    all_outlines_renamed no_trees = refl
    all_outlines_renamed (first_tree t ts) = λ i. first_tree (outline_renamed t i) (all_outlines_renamed ts i)

  abbrev other_name : SelectorKind → Selector → Selector
  other_name k s = renamed_selector (of_metric from to) s

  mutual
    in_renamed : (k : SelectorKind) (t : Tree) → selectors_in k (renamed (of_metric from to) t) ≡ map (changed other_name) (selectors_in k t)
    in_renamed k (aggregate op e p m) =
        both other_name (param_selectors k (maybe_renamed (of_metric from to) p)) (selectors_in k (renamed (of_metric from to) e)) (param_selectors k p) (selectors_in k e) (param_renamed k p) (in_renamed k e)
    in_renamed k (unary e) = in_renamed k e
    in_renamed k (binary op x y m) =
        both other_name (selectors_in k (renamed (of_metric from to) x)) (selectors_in k (renamed (of_metric from to) y)) (selectors_in k x) (selectors_in k y) (in_renamed k x) (in_renamed k y)
    in_renamed k (paren e) = in_renamed k e
    in_renamed k (subquery e offset at range step) = in_renamed k e
    in_renamed k (number n) = refl
    in_renamed k (string s) = refl
    in_renamed k (vector s) = refl
    in_renamed k (matrix s range mode) = refl
    in_renamed k (call f ts) = args_renamed k (kind_after f k) ts
    in_renamed k (extension name gives ts) = args_renamed k k ts

    param_renamed : (k : SelectorKind) (p : MaybeTree) → param_selectors k (maybe_renamed (of_metric from to) p) ≡ map (changed other_name) (param_selectors k p)
    param_renamed k absent = refl
    param_renamed k (present e) = in_renamed k e

    args_renamed : (k others : SelectorKind) (ts : Trees) → arg_selectors k others (all_renamed (of_metric from to) ts) ≡ map (changed other_name) (arg_selectors k others ts)
    args_renamed k others no_trees = refl
    args_renamed k others (first_tree t ts) =
        both other_name (selectors_in k (renamed (of_metric from to) t)) (arg_selectors others others (all_renamed (of_metric from to) ts)) (selectors_in k t) (arg_selectors others others ts) (in_renamed k t) (args_renamed others others ts)

  pub selectors_renamed : (t : Tree) → selectors_of (renamed (of_metric from to) t) ≡ map (changed other_name) (selectors_of t)
  selectors_renamed t = selectors_are (renamed (of_metric from to) t) ∙ in_renamed Series t ∙ ap (map (changed other_name)) (sym (selectors_are t))

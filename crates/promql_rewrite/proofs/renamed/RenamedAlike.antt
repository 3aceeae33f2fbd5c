-- A name that is renamed to itself changes nothing.
use Rattle.std.proofs.Common.{◌≡◌, refl, sym, ap, Bool, true, false, cond, List, [], ◌∷◌, map, Option, Some, None}
use Rattle.std.specs.Prelude.{option_map}
use Rattle.std.specs.Str.{bytes_eq}
use Rattle.std.proofs.lemmas.Slice.Eq.{bytes_eq-Decides}
use Rattle.promql_text.specs.Texts.{Text}
use Rattle.promql_label.specs.PlainMatchers.{PlainMatcher, plain_matcher, PlainMatchers, plain_matchers}
use Rattle.promql_kind.specs.Modifiers.{Cardinality, one_to_one, many_to_one, one_to_many, many_to_many, Clause, including, excluding, Matching, matching}
use Rattle.promql_ast.specs.Selectors.{Selector, selector}
use Rattle.promql_ast.specs.Tree.{Tree, aggregate, unary, binary, paren, subquery, number, string, vector, matrix, call, extension, MaybeTree, absent, present, Trees, no_trees, first_tree}
use Rattle.promql_rewrite.specs.Collecting.{is_metric_name}
use Rattle.promql_rewrite.specs.Renaming.{Renaming, of_label, of_metric, all_renamed, maybe_renamed, renamed, renamed_cardinality, renamed_clause, renamed_labels, renamed_matcher, renamed_matchers, renamed_matching, renamed_name, renamed_selector, replaced}

each_same : {X : Type 0} (f : X → X) → ((x : X) → f x ≡ x) → (xs : List X) → map f xs ≡ xs
each_same f same [] = refl
each_same f same (x ∷ xs) = λ i. same x i ∷ each_same f same xs i

maybe_same : {X : Type 0} (f : X → X) → ((x : X) → f x ≡ x) → (o : Option X) → option_map f o ≡ o
maybe_same f same None = refl
maybe_same f same (Some x) = ap Some (same x)

-- ---- a name

module _ (l : Text) where
  same_name : (name : Text) → replaced l l name ≡ name
  same_name name = go (bytes_eq name l) refl
    where
      go : (b : Bool) → bytes_eq name l ≡ b → cond b l name ≡ name
      go true is = sym ((bytes_eq-Decides name l).0 is)
      go false is = refl

  same_value : (b : Bool) (value : Text) → cond b (replaced l l value) value ≡ value
  same_value true value = same_name value
  same_value false value = refl

-- ---- a renaming that changes neither names, matchers nor labels

module _ (r : Renaming) (names : (o : Option Text) → renamed_name r o ≡ o) (matchers : (c : PlainMatcher) → renamed_matcher r c ≡ c) (labels : (ls : List Text) → renamed_labels r ls ≡ ls) where
  same_matchers : (cs : PlainMatchers) → renamed_matchers r cs ≡ cs
  same_matchers (plain_matchers cs gs) = λ i. plain_matchers (each_same (renamed_matcher r) matchers cs i) (each_same (map (renamed_matcher r)) (each_same (renamed_matcher r) matchers) gs i)

  same_selector : (s : Selector) → renamed_selector r s ≡ s
  same_selector (selector name cs offset at) = λ i. selector (names name i) (same_matchers cs i) offset at

  same_clause : (k : Clause) → renamed_clause r k ≡ k
  same_clause (including ls) = ap including (labels ls)
  same_clause (excluding ls) = ap excluding (labels ls)

  same_cardinality : (k : Cardinality) → renamed_cardinality r k ≡ k
  same_cardinality one_to_one = refl
  same_cardinality (many_to_one ls) = ap many_to_one (labels ls)
  same_cardinality (one_to_many ls) = ap one_to_many (labels ls)
  same_cardinality many_to_many = refl

  same_matching : (m : Matching) → renamed_matching r m ≡ m
  same_matching (matching card clause return_bool values) = λ i. matching (same_cardinality card i) (maybe_same (renamed_clause r) same_clause clause i) return_bool values

  mutual
    same_tree : (t : Tree) → renamed r t ≡ t
    same_tree (aggregate op e p m) = λ i. aggregate op (same_tree e i) (same_param p i) (maybe_same (renamed_clause r) same_clause m i)
    same_tree (unary e) = λ i. unary (same_tree e i)
    same_tree (binary op x y m) = λ i. binary op (same_tree x i) (same_tree y i) (maybe_same (renamed_matching r) same_matching m i)
    same_tree (paren e) = λ i. paren (same_tree e i)
    same_tree (subquery e offset at range step) = λ i. subquery (same_tree e i) offset at range step
    same_tree (number n) = refl
    same_tree (string s) = refl
    same_tree (vector s) = λ i. vector (same_selector s i)
    same_tree (matrix s range mode) = λ i. matrix (same_selector s i) range mode
    same_tree (call f ts) = λ i. call f (same_trees ts i)
    same_tree (extension name gives ts) = λ i. extension name gives (same_trees ts i)

    same_param : (p : MaybeTree) → maybe_renamed r p ≡ p
    same_param absent = refl
    same_param (present e) = λ i. present (same_tree e i)

    same_trees : (ts : Trees) → all_renamed r ts ≡ ts
    same_trees no_trees = refl
    same_trees (first_tree t ts) = λ i. first_tree (same_tree t i) (same_trees ts i)

-- ---- to itself

module _ (l : Text) where
  metric_matcher : (c : PlainMatcher) → renamed_matcher (of_metric l l) c ≡ c
  metric_matcher (plain_matcher op name value) = ap (plain_matcher op name) (same_value l (is_metric_name (plain_matcher op name value)) value)

  label_matcher : (c : PlainMatcher) → renamed_matcher (of_label l l) c ≡ c
  label_matcher (plain_matcher op name value) = ap (λ n. plain_matcher op n value) (same_name l name)

  pub metric_itself : (t : Tree) → renamed (of_metric l l) t ≡ t
  metric_itself = same_tree (of_metric l l) (maybe_same (replaced l l) (same_name l)) metric_matcher (λ ls. refl)

  pub label_itself : (t : Tree) → renamed (of_label l l) t ≡ t
  label_itself = same_tree (of_label l l) (λ o. refl) label_matcher (each_same (replaced l l) (same_name l))

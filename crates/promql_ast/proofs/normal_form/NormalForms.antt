-- The normal form of a normal form is itself, and prints as the tree does.
use Rattle.std.proofs.Common.{◌≡◌, ◌∙◌, Bool, true, false, List, [], ◌∷◌, ◌++◌, Option, Some, None, Ordering, Less, Equal, Greater, map, codes, refl, sym, ap, is_gt}
use Rattle.std.specs.Prelude.{if◌then◌else◌, unwrap_or}
use Rattle.std.specs.Ordering.{ordering_reverse}
use Rattle.std.proofs.lemmas.Cmp.{nat_list_cmp_total}
use Rattle.promql_text.specs.Texts.{joined_text}
use Rattle.promql_token.specs.Ids.{text_of}
use Rattle.promql_label.specs.PlainMatchers.{PlainMatcher, PlainMatchers, plain_matchers, matcher_text, matchers_text}
use Rattle.promql_label.specs.ReadMatchers.{insert_matcher, sorted_matchers}
use Rattle.promql_label.specs.SortedTexts.{sorted_texts, text_order}
use Rattle.promql_label.proofs.readback.PrintedTokens.{texts_sorted}
use Rattle.promql_kind.specs.Functions.{name_of}
use Rattle.promql_kind.specs.ModifierText.{bool_text, fills_text, grouping_text, matched_text, modifier_text}
use Rattle.promql_kind.specs.Modifiers.{Clause, including, excluding, one_to_one, fills, Matching, matching, is_grouping}
use Rattle.promql_ast.specs.Normal.{normal_matchers, normal_selector, normal_clause, normal_matched, unless_default, normal_matching, normal, maybe_normal, all_normal}
use Rattle.promql_ast.specs.Selectors.{Selector, selector}
use Rattle.promql_ast.specs.Text.{text, maybe_text, texts}
use Rattle.promql_ast.specs.Tree.{Tree, aggregate, unary, binary, paren, subquery, number, string, vector, matrix, call, extension, MaybeTree, absent, present, Trees, no_trees, first_tree}
use Rattle.promql_ast.specs.node.Aggregate.{clause_text, param_text}
use Rattle.promql_ast.specs.node.Binary.{matching_text}
use Rattle.promql_ast.specs.node.Call.{call_text}
use Rattle.promql_ast.specs.node.Matrix.{matrix_range_text}
use Rattle.promql_ast.specs.node.Subquery.{subquery_text}
use Rattle.promql_ast.specs.node.Vector.{base_text, with_braces, suffix_text}

-- ---- sorted matchers

abbrev is_after : PlainMatcher → PlainMatcher → Bool
is_after c d = is_gt (text_order (matcher_text c) (matcher_text d))

not_after : (c d : PlainMatcher) → is_after c d ≡ true → is_after d c ≡ false
not_after c d e = go (text_order (matcher_text c) (matcher_text d)) refl e
  where
    back : (o : Ordering) → text_order (matcher_text c) (matcher_text d) ≡ o → is_after d c ≡ is_gt (ordering_reverse o)
    back o is = ap is_gt (nat_list_cmp_total.antisymm (matcher_text d) (matcher_text c) ∙ ap ordering_reverse is)

    go : (o : Ordering) → text_order (matcher_text c) (matcher_text d) ≡ o → is_gt o ≡ true → is_after d c ≡ false
    go Less is gt = cc
    go Equal is gt = cc
    go Greater is gt = back Greater is

abbrev IsBelow : PlainMatcher → List PlainMatcher → Type 0
IsBelow c [] = Unit {0}
IsBelow c (d ∷ ds) = is_after c d ≡ false

abbrev IsRising : List PlainMatcher → Type 0
IsRising [] = Unit {0}
IsRising (c ∷ cs) = IsBelow c cs × IsRising cs

decide : (b : Bool) (P : Bool → Type 0) → (b ≡ true → P true) → (b ≡ false → P false) → P b
decide true P f g = f refl
decide false P f g = g refl

below_insert : (b c : PlainMatcher) (ds : List PlainMatcher) → is_after b c ≡ false → IsBelow b ds → IsBelow b (insert_matcher c ds)
below_insert b c [] h k = h
below_insert b c (d ∷ ds) h k =
    decide (is_after c d) (λ x. IsBelow b (if x then d ∷ insert_matcher c ds else c ∷ d ∷ ds)) (λ _. k) (λ _. h)

rising_insert : (c : PlainMatcher) (ds : List PlainMatcher) → IsRising ds → IsRising (insert_matcher c ds)
rising_insert c [] h = (tt, tt)
rising_insert c (d ∷ ds) h =
    decide (is_after c d) (λ x. IsRising (if x then d ∷ insert_matcher c ds else c ∷ d ∷ ds))
    (λ e. (below_insert d c ds (not_after c d e) h.0, rising_insert c ds h.1)) (λ e. (e, h))

rising_sorted : (cs : List PlainMatcher) → IsRising (sorted_matchers cs)
rising_sorted [] = tt
rising_sorted (c ∷ cs) = rising_insert c (sorted_matchers cs) (rising_sorted cs)

insert_below : (c : PlainMatcher) (ds : List PlainMatcher) → IsBelow c ds → insert_matcher c ds ≡ c ∷ ds
insert_below c [] h = refl
insert_below c (d ∷ ds) h = ap (λ x. if x then d ∷ insert_matcher c ds else c ∷ d ∷ ds) h

sorted_rising : (cs : List PlainMatcher) → IsRising cs → sorted_matchers cs ≡ cs
sorted_rising [] h = refl
sorted_rising (c ∷ cs) h = ap (insert_matcher c) (sorted_rising cs h.1) ∙ insert_below c cs h.0

sorted_twice : (cs : List PlainMatcher) → sorted_matchers (sorted_matchers cs) ≡ sorted_matchers cs
sorted_twice cs = sorted_rising (sorted_matchers cs) (rising_sorted cs)

-- sorting sorted matchers' texts again changes nothing
texts_again : (cs : List PlainMatcher) → sorted_texts (map matcher_text (sorted_matchers cs)) ≡ sorted_texts (map matcher_text cs)
texts_again cs = sym (texts_sorted (sorted_matchers cs)) ∙ ap (map matcher_text) (sorted_twice cs) ∙ texts_sorted cs

matchers_alike : (ms : PlainMatchers) → matchers_text (normal_matchers ms) ≡ matchers_text ms
matchers_alike (plain_matchers cs []) = ap (joined_text (codes ",")) (texts_again cs)
matchers_alike (plain_matchers cs (g ∷ gs)) = refl

matchers_twice : (ms : PlainMatchers) → normal_matchers (normal_matchers ms) ≡ normal_matchers ms
matchers_twice (plain_matchers cs gs) = ap (λ ds. plain_matchers ds gs) (sorted_twice cs)

base_alike : (s : Selector) → base_text (normal_selector s) ≡ base_text s
base_alike (selector name matchers offset at) = ap (λ t. unwrap_or name [] ++ with_braces t) (matchers_alike matchers)

suffix_alike : (s : Selector) → suffix_text (normal_selector s) ≡ suffix_text s
suffix_alike (selector name matchers offset at) = refl

selector_twice : (s : Selector) → normal_selector (normal_selector s) ≡ normal_selector s
selector_twice (selector name matchers offset at) = ap (λ ms. selector name ms offset at) (matchers_twice matchers)

-- ---- modifiers

clause_alike : (m : Option Clause) → clause_text (normal_clause m) ≡ clause_text m
clause_alike None = refl
clause_alike (Some (including [])) = refl
clause_alike (Some (including (l ∷ ls))) = refl
clause_alike (Some (excluding ls)) = refl

clause_twice : (m : Option Clause) → normal_clause (normal_clause m) ≡ normal_clause m
clause_twice None = refl
clause_twice (Some (including [])) = refl
clause_twice (Some (including (l ∷ ls))) = refl
clause_twice (Some (excluding ls)) = refl

matched_alike : (b : Bool) (m : Option Clause) → matched_text b (normal_matched b m) ≡ matched_text b m
matched_alike true m = refl
matched_alike false None = refl
matched_alike false (Some (including ls)) = refl
matched_alike false (Some (excluding [])) = refl
matched_alike false (Some (excluding (l ∷ ls))) = refl

matched_twice : (b : Bool) (m : Option Clause) → normal_matched b (normal_matched b m) ≡ normal_matched b m
matched_twice true m = refl
matched_twice false None = refl
matched_twice false (Some (including ls)) = refl
matched_twice false (Some (excluding [])) = refl
matched_twice false (Some (excluding (l ∷ ls))) = refl

unless_alike : (m : Matching) → matching_text (unless_default m) ≡ modifier_text m
unless_alike (matching one_to_one None false (fills None None)) = refl
unless_alike _ = refl

matching_alike : (m : Option Matching) → matching_text (normal_matching m) ≡ matching_text m
matching_alike None = refl
matching_alike (Some (matching card clause return_bool values)) =
    unless_alike (matching card (normal_matched (is_grouping card) clause) return_bool values)
    ∙ ap (λ t. bool_text return_bool ++ (t ++ (grouping_text card ++ fills_text values))) (matched_alike (is_grouping card) clause)

again : (m : Matching) → normal_matching (Some m) ≡ unless_default m → normal_matching (unless_default m) ≡ unless_default m
again (matching one_to_one None false (fills None None)) e = refl
again _ e = e

matching_twice : (m : Option Matching) → normal_matching (normal_matching m) ≡ normal_matching m
matching_twice None = refl
matching_twice (Some (matching card clause return_bool values)) =
    again (matching card (normal_matched (is_grouping card) clause) return_bool values)
    (ap (λ c. unless_default (matching card c return_bool values)) (matched_twice (is_grouping card) clause))

-- ---- trees

mutual
  pub text_alike : (t : Tree) → text (normal t) ≡ text t
  text_alike (aggregate op e p m) = λ i.
      (text_of op ++ clause_alike m i) ++ (codes "(" ++ (param_text (maybe_alike p i) ++ (text_alike e i ++ codes ")")))
  text_alike (unary e) = λ i. codes "-" ++ text_alike e i
  text_alike (binary op l r m) = λ i.
      text_alike l i ++ ((codes " " ++ (text_of op ++ (matching_alike m i ++ codes " "))) ++ text_alike r i)
  text_alike (paren e) = λ i. codes "(" ++ (text_alike e i ++ codes ")")
  text_alike (subquery e offset at range step) = λ i. subquery_text (text_alike e i) offset at range step
  text_alike (number n) = refl
  text_alike (string s) = refl
  text_alike (vector s) = λ i. base_alike s i ++ suffix_alike s i
  text_alike (matrix s range mode) = λ i. base_alike s i ++ (matrix_range_text range mode ++ suffix_alike s i)
  text_alike (call f args) = λ i. call_text (name_of f) (texts_alike args i)
  text_alike (extension name gives es) = λ i. call_text name (texts_alike es i)

  maybe_alike : (p : MaybeTree) → maybe_text (maybe_normal p) ≡ maybe_text p
  maybe_alike absent = refl
  maybe_alike (present e) = λ i. Some (text_alike e i)

  texts_alike : (ts : Trees) → texts (all_normal ts) ≡ texts ts
  texts_alike no_trees = refl
  texts_alike (first_tree e es) = λ i. text_alike e i ∷ texts_alike es i

mutual
  pub normal_twice : (t : Tree) → normal (normal t) ≡ normal t
  normal_twice (aggregate op e p m) = λ i. aggregate op (normal_twice e i) (maybe_twice p i) (clause_twice m i)
  normal_twice (unary e) = λ i. unary (normal_twice e i)
  normal_twice (binary op l r m) = λ i. binary op (normal_twice l i) (normal_twice r i) (matching_twice m i)
  normal_twice (paren e) = λ i. paren (normal_twice e i)
  normal_twice (subquery e offset at range step) = λ i. subquery (normal_twice e i) offset at range step
  normal_twice (number n) = refl
  normal_twice (string s) = refl
  normal_twice (vector s) = λ i. vector (selector_twice s i)
  normal_twice (matrix s range mode) = λ i. matrix (selector_twice s i) range mode
  normal_twice (call f args) = λ i. call f (all_twice args i)
  normal_twice (extension name gives es) = λ i. extension name gives (all_twice es i)

  maybe_twice : (p : MaybeTree) → maybe_normal (maybe_normal p) ≡ maybe_normal p
  maybe_twice absent = refl
  maybe_twice (present e) = λ i. present (normal_twice e i)

  all_twice : (ts : Trees) → all_normal (all_normal ts) ≡ all_normal ts
  all_twice no_trees = refl
  all_twice (first_tree e es) = λ i. first_tree (normal_twice e i) (all_twice es i)

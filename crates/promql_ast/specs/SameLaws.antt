-- Proofs that the tests of trees and their parts decide `≡`, for the laws of `==`.
use Rattle.std.proofs.Common.{◌≡◌, Bool, List, refl, ap}
use lib.Pointwise.{pointwise}
use Rattle.std.specs.Bool.{Decides}
use Rattle.std.specs.Cmp.{decided, IsEquivalence, IsPartialEquivalence, partial_equiv_from_equiv}
use Rattle.std.proofs.lemmas.Bool.Decides.{Decides-and, Decides-eqb, Decides-int_eq, Decides-like}
use Rattle.std.proofs.lemmas.Slice.Eq.{bytes_eq-Decides, slice_eq-Decides}
use Rattle.promql_label.specs.PlainMatchers.{Operator, equal, not_equal, matches, matches_not, PlainMatcher, plain_matcher, PlainMatchers, plain_matchers}
use Rattle.promql_kind.proofs.SameModifiersDecide.{clause_eq-Decides, matching_eq-Decides, number_eq-Decides, option_eq-Decides, signature_eq-Decides, type_eq-Decides}
use Rattle.promql_ast.specs.Same.{operator_eq, matcher_eq, matchers_eq, shift_eq, moment_eq, mode_eq, selector_eq, tree_eq, maybe_eq, trees_eq}
use Rattle.promql_ast.specs.Selectors.{Selector, selector}
use Rattle.promql_ast.specs.Shifts.{Shift, back, ahead, Moment, at_start, at_end, at_time}
use Rattle.promql_ast.specs.Tree.{Tree, aggregate, unary, binary, paren, subquery, number, string, vector, matrix, call, extension, MaybeTree, absent, present, Trees, no_trees, first_tree}
use Rattle.promql_ast.specs.declared.range_mode.RangeMode.{RangeMode}
use Rattle.promql_ast.specs.declared.range_mode.RangeMode.TheVariants.{Plain, Smoothed, Anchored}

list_eq-Decides : {X : Type 0} {same : X → X → Bool} → ((a b : X) → Decides (same a b) (a ≡ b))
    → (xs ys : List X) → Decides (pointwise same xs ys) (xs ≡ ys)
list_eq-Decides {same = same} each xs ys = slice_eq-Decides each xs ys (pointwise same xs ys) refl

operator_eq-Decides : (a b : Operator) → Decides (operator_eq a b) (a ≡ b)
operator_eq-Decides equal equal = ((λ _. refl), (λ _. refl))
operator_eq-Decides not_equal not_equal = ((λ _. refl), (λ _. refl))
operator_eq-Decides (matches w) (matches v) = Decides-like _ (λ e. ap matches e) (λ e. cc) (bytes_eq-Decides w v)
operator_eq-Decides (matches_not w) (matches_not v) = Decides-like _ (λ e. ap matches_not e) (λ e. cc) (bytes_eq-Decides w v)
operator_eq-Decides _ _ = ((λ h. cc), (λ h. cc))

matcher_eq-Decides : (a b : PlainMatcher) → Decides (matcher_eq a b) (a ≡ b)
matcher_eq-Decides (plain_matcher o n v) (plain_matcher p m w) =
    Decides-like _ (λ same. let op = same.0 in let name = same.1.0 in let value = same.1.1 in cc) (λ e. (cc, (cc, cc)))
    (Decides-and _ _ (operator_eq-Decides o p) (Decides-and _ _ (bytes_eq-Decides n m) (bytes_eq-Decides v w)))

pub matchers_eq-Decides : (a b : PlainMatchers) → Decides (matchers_eq a b) (a ≡ b)
matchers_eq-Decides (plain_matchers cs gs) (plain_matchers ds hs) =
    Decides-like _ (λ same. let plain = same.0 in let groups = same.1 in cc) (λ e. (cc, cc))
    (Decides-and _ _ (list_eq-Decides matcher_eq-Decides cs ds) (list_eq-Decides (list_eq-Decides matcher_eq-Decides) gs hs))

pub shift_eq-Decides : (a b : Shift) → Decides (shift_eq a b) (a ≡ b)
shift_eq-Decides (back m) (back n) = Decides-like _ (λ e. ap back e) (λ e. cc) (Decides-eqb m n)
shift_eq-Decides (ahead m) (ahead n) = Decides-like _ (λ e. ap ahead e) (λ e. cc) (Decides-eqb m n)
shift_eq-Decides _ _ = ((λ h. cc), (λ h. cc))

pub moment_eq-Decides : (a b : Moment) → Decides (moment_eq a b) (a ≡ b)
moment_eq-Decides at_start at_start = ((λ _. refl), (λ _. refl))
moment_eq-Decides at_end at_end = ((λ _. refl), (λ _. refl))
moment_eq-Decides (at_time s) (at_time t) = Decides-like _ (λ e. ap at_time e) (λ e. cc) (Decides-int_eq s t)
moment_eq-Decides _ _ = ((λ h. cc), (λ h. cc))

mode_eq-Decides : (a b : RangeMode) → Decides (mode_eq a b) (a ≡ b)
mode_eq-Decides Plain Plain = ((λ _. refl), (λ _. refl))
mode_eq-Decides Smoothed Smoothed = ((λ _. refl), (λ _. refl))
mode_eq-Decides Anchored Anchored = ((λ _. refl), (λ _. refl))
mode_eq-Decides _ _ = ((λ h. cc), (λ h. cc))

pub selector_eq-Decides : (a b : Selector) → Decides (selector_eq a b) (a ≡ b)
selector_eq-Decides (selector n m o a) (selector k l p b) =
    Decides-like _
    (λ same. let name = same.0 in let matchers = same.1.0 in let offset = same.1.1.0 in let at = same.1.1.1 in cc)
    (λ e. (cc, (cc, (cc, cc))))
    (Decides-and _ _ (option_eq-Decides bytes_eq-Decides n k)
    (Decides-and _ _ (matchers_eq-Decides m l)
    (Decides-and _ _ (option_eq-Decides shift_eq-Decides o p) (option_eq-Decides moment_eq-Decides a b))))

mutual
  pub tree_eq-Decides : (a b : Tree) → Decides (tree_eq a b) (a ≡ b)
  tree_eq-Decides (aggregate op e p m) (aggregate oq f q n) =
      let d = Decides-and _ _ (Decides-eqb op oq) (Decides-and _ _ (tree_eq-Decides e f) (Decides-and _ _ (maybe_eq-Decides p q) (option_eq-Decides clause_eq-Decides m n))) in
      (λ h. let all = d.0 h in cc, λ h. d.1 (cc, (cc, (cc, cc))))
  tree_eq-Decides (unary a) (unary b) = let d = tree_eq-Decides a b in (λ e. ap unary (d.0 e), λ e. d.1 (cc))
  tree_eq-Decides (binary op l r m) (binary oq k s n) =
      let d = Decides-and _ _ (Decides-eqb op oq) (Decides-and _ _ (tree_eq-Decides l k) (Decides-and _ _ (tree_eq-Decides r s) (option_eq-Decides matching_eq-Decides m n))) in
      (λ h. let all = d.0 h in cc, λ h. d.1 (cc, (cc, (cc, cc))))
  tree_eq-Decides (paren a) (paren b) = let d = tree_eq-Decides a b in (λ e. ap paren (d.0 e), λ e. d.1 (cc))
  tree_eq-Decides (subquery e o a r s) (subquery f p b q t) =
      let d = Decides-and _ _ (tree_eq-Decides e f) (Decides-and _ _ (option_eq-Decides shift_eq-Decides o p) (Decides-and _ _ (option_eq-Decides moment_eq-Decides a b) (Decides-and _ _ (Decides-eqb r q) (option_eq-Decides Decides-eqb s t)))) in
      (λ h. let all = d.0 h in cc, λ h. d.1 (cc, (cc, (cc, (cc, cc)))))
  tree_eq-Decides (number a) (number b) = let d = number_eq-Decides a b in (λ e. ap number (d.0 e), λ e. d.1 (cc))
  tree_eq-Decides (string a) (string b) = let d = bytes_eq-Decides a b in (λ e. ap string (d.0 e), λ e. d.1 (cc))
  tree_eq-Decides (vector a) (vector b) = let d = selector_eq-Decides a b in (λ e. ap vector (d.0 e), λ e. d.1 (cc))
  tree_eq-Decides (matrix a r m) (matrix b q n) =
      let d = Decides-and _ _ (selector_eq-Decides a b) (Decides-and _ _ (Decides-eqb r q) (mode_eq-Decides m n)) in
      (λ h. let all = d.0 h in cc, λ h. d.1 (cc, (cc, cc)))
  tree_eq-Decides (call f xs) (call g ys) =
      let d = Decides-and _ _ (signature_eq-Decides f g) (trees_eq-Decides xs ys) in
      (λ h. let all = d.0 h in cc, λ h. d.1 (cc, cc))
  tree_eq-Decides (extension n k xs) (extension m j ys) =
      let d = Decides-and _ _ (bytes_eq-Decides n m) (Decides-and _ _ (type_eq-Decides k j) (trees_eq-Decides xs ys)) in
      (λ h. let all = d.0 h in cc, λ h. d.1 (cc, (cc, cc)))
  tree_eq-Decides _ _ = (λ e. cc, λ e. cc)

  pub maybe_eq-Decides : (a b : MaybeTree) → Decides (maybe_eq a b) (a ≡ b)
  maybe_eq-Decides absent absent = (λ e. refl, λ e. refl)
  maybe_eq-Decides (present a) (present b) = let d = tree_eq-Decides a b in (λ e. ap present (d.0 e), λ e. d.1 (cc))
  maybe_eq-Decides _ _ = (λ e. cc, λ e. cc)

  pub trees_eq-Decides : (a b : Trees) → Decides (trees_eq a b) (a ≡ b)
  trees_eq-Decides no_trees no_trees = (λ e. refl, λ e. refl)
  trees_eq-Decides (first_tree a xs) (first_tree b ys) =
      let d = Decides-and _ _ (tree_eq-Decides a b) (trees_eq-Decides xs ys) in
      (λ h. let all = d.0 h in cc, λ h. d.1 (cc, cc))
  trees_eq-Decides _ _ = (λ e. cc, λ e. cc)

-- so each test is reflexive, symmetric and transitive
pub shift_equivalence : IsEquivalence shift_eq
shift_equivalence = decided shift_eq shift_eq-Decides

pub shift_laws : IsPartialEquivalence shift_eq
shift_laws = partial_equiv_from_equiv shift_equivalence

pub moment_equivalence : IsEquivalence moment_eq
moment_equivalence = decided moment_eq moment_eq-Decides

pub moment_laws : IsPartialEquivalence moment_eq
moment_laws = partial_equiv_from_equiv moment_equivalence

pub tree_equivalence : IsEquivalence tree_eq
tree_equivalence = decided tree_eq tree_eq-Decides

pub tree_laws : IsPartialEquivalence tree_eq
tree_laws = partial_equiv_from_equiv tree_equivalence

pub trees_equivalence : IsEquivalence trees_eq
trees_equivalence = decided trees_eq trees_eq-Decides

pub trees_laws : IsPartialEquivalence trees_eq
trees_laws = partial_equiv_from_equiv trees_equivalence

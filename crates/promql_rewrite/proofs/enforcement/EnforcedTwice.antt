-- A matcher that is enforced twice is there once.
use Rattle.std.proofs.Common.{◌≡◌, refl, ◌∙◌, ap, Bool, true, false, cond, ◌||◌, List, [], ◌∷◌, ◌++◌, map}
use Rattle.std.proofs.lemmas.Bool.{or_right}
use Rattle.std.specs.List.{list_any}
use Rattle.std.proofs.lemmas.List.Folds.{list_any-append}
use Rattle.promql_label.specs.PlainMatchers.{PlainMatcher, PlainMatchers, plain_matchers}
use Rattle.promql_ast.specs.Same.{matcher_eq}
use Rattle.promql_ast.specs.Selectors.{Selector, selector}
use Rattle.promql_ast.specs.Tree.{Tree, aggregate, unary, binary, paren, subquery, number, string, vector, matrix, call, extension, MaybeTree, absent, present, Trees, no_trees, first_tree}
use Rattle.promql_rewrite.specs.Enforcing.{all_enforced, enforced, enforced_matchers, enforced_selector, maybe_enforced, with_matcher}
use Rattle.promql_rewrite.proofs.enforcement.SameMatchers.{matcher_Decides}

module _ (c : PlainMatcher) where
  is_there : (cs : List PlainMatcher) → list_any (matcher_eq c) (with_matcher c cs) ≡ true
  is_there cs = go (list_any (matcher_eq c) cs) refl
    where
      go : (b : Bool) → list_any (matcher_eq c) cs ≡ b → list_any (matcher_eq c) (cond b cs (cs ++ c ∷ [])) ≡ true
      go true is = is
      go false is =
          list_any-append (matcher_eq c) cs (c ∷ [])
          ∙ or_right (list_any (matcher_eq c) cs) (matcher_eq c c || false) (ap (λ b. b || false) ((matcher_Decides c c).1 refl))

  list_twice : (cs : List PlainMatcher) → with_matcher c (with_matcher c cs) ≡ with_matcher c cs
  list_twice cs = ap (λ b. cond b (with_matcher c cs) (with_matcher c cs ++ c ∷ [])) (is_there cs)

  groups_twice : (gs : List (List PlainMatcher)) → map (with_matcher c) (map (with_matcher c) gs) ≡ map (with_matcher c) gs
  groups_twice [] = refl
  groups_twice (g ∷ gs) = λ i. list_twice g i ∷ groups_twice gs i

  matchers_twice : (cs : PlainMatchers) → enforced_matchers c (enforced_matchers c cs) ≡ enforced_matchers c cs
  matchers_twice (plain_matchers cs []) = ap (λ ds. plain_matchers ds []) (list_twice cs)
  matchers_twice (plain_matchers cs (g ∷ gs)) = ap (plain_matchers cs) (groups_twice (g ∷ gs))

  selector_twice : (s : Selector) → enforced_selector c (enforced_selector c s) ≡ enforced_selector c s
  selector_twice (selector name cs offset at) = ap (λ ds. selector name ds offset at) (matchers_twice cs)

  mutual
    pub enforced_twice : (t : Tree) → enforced c (enforced c t) ≡ enforced c t
    enforced_twice (aggregate op e p m) = λ i. aggregate op (enforced_twice e i) (maybe_twice p i) m
    enforced_twice (unary e) = λ i. unary (enforced_twice e i)
    enforced_twice (binary op l r m) = λ i. binary op (enforced_twice l i) (enforced_twice r i) m
    enforced_twice (paren e) = λ i. paren (enforced_twice e i)
    enforced_twice (subquery e offset at range step) = λ i. subquery (enforced_twice e i) offset at range step
    enforced_twice (number n) = refl
    enforced_twice (string s) = refl
    enforced_twice (vector s) = λ i. vector (selector_twice s i)
    enforced_twice (matrix s range mode) = λ i. matrix (selector_twice s i) range mode
    enforced_twice (call f ts) = ap (call f) (all_twice ts)
    enforced_twice (extension name gives ts) = λ i. extension name gives (all_twice ts i)

    maybe_twice : (p : MaybeTree) → maybe_enforced c (maybe_enforced c p) ≡ maybe_enforced c p
    maybe_twice absent = refl
    maybe_twice (present e) = λ i. present (enforced_twice e i)

    all_twice : (ts : Trees) → all_enforced c (all_enforced c ts) ≡ all_enforced c ts
    all_twice no_trees = refl
    all_twice (first_tree t ts) = λ i. first_tree (enforced_twice t i) (all_twice ts i)

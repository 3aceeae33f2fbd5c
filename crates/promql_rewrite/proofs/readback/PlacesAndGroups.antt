-- Right sides of operators, and or-groups.
use Rattle.std.proofs.Common.{◌≡◌, ◌⊎◌, ◌<◌, ◌≤◌, ℕ, List, [], ◌∷◌, length, Option, refl, ap, subst, arith}
use Rattle.std.specs.List.{AllByRecursion}
use Rattle.std.specs.Prelude.{◌≢◌, ◌↔◌}
use Rattle.promql_token.specs.declared.ids.TheConstants.{T_POW}
use Rattle.promql_grammar.specs.Grammar.{precedence}
use Rattle.promql_label.specs.PlainMatchers.{PlainMatcher, plain_matchers}
use Rattle.promql_kind.specs.Modifiers.{Matching}
use Rattle.promql_ast.specs.Tree.{Tree, aggregate, unary, binary, paren, subquery, number, string, vector, matrix, call, extension}
use Rattle.promql_rewrite.specs.PrintableConditions.{AreGrouped, IsRightSide}

module _ (op : ℕ) where
  higher : (t : Tree) → IsRightSide op t → (inner : ℕ) (l r : Tree) (m : Option Matching) → t ≡ binary inner l r m
      → (precedence op < precedence inner) ⊎ ((op ≡ T_POW) × (inner ≡ T_POW))
  higher (binary outer a b n) h inner l r m e =
      let same : outer ≡ inner = cc in
      subst (λ i. (precedence op < precedence i) ⊎ ((op ≡ T_POW) × (i ≡ T_POW))) same h
  higher (aggregate i e p m) h inner l r n is = cc
  higher (unary e) h inner l r m is = cc
  higher (paren e) h inner l r m is = cc
  higher (subquery e offset at range step) h inner l r m is = cc
  higher (number n) h inner l r m is = cc
  higher (string s) h inner l r m is = cc
  higher (vector s) h inner l r m is = cc
  higher (matrix s range mode) h inner l r m is = cc
  higher (call f args) h inner l r m is = cc
  higher (extension name gives es) h inner l r m is = cc

  on_the_right : (t : Tree) → ((inner : ℕ) (l r : Tree) (m : Option Matching) → t ≡ binary inner l r m
      → (precedence op < precedence inner) ⊎ ((op ≡ T_POW) × (inner ≡ T_POW))) → IsRightSide op t
  on_the_right (binary inner l r m) h = h inner l r m refl
  on_the_right (aggregate i e p m) h = tt
  on_the_right (unary e) h = tt
  on_the_right (paren e) h = tt
  on_the_right (subquery e offset at range step) h = tt
  on_the_right (number n) h = tt
  on_the_right (string s) h = tt
  on_the_right (vector s) h = tt
  on_the_right (matrix s range mode) h = tt
  on_the_right (call f args) h = tt
  on_the_right (extension name gives es) h = tt

pub right_is : (op : ℕ) (t : Tree) → IsRightSide op t ↔ ((inner : ℕ) (l r : Tree) (m : Option Matching) → t ≡ binary inner l r m
    → (precedence op < precedence inner) ⊎ ((op ≡ T_POW) × (inner ≡ T_POW)))
right_is op t = (higher op t, on_the_right op t)

two_groups : (g : List PlainMatcher) (gs : List (List PlainMatcher)) → gs ≢ [] → 2 ≤ length (g ∷ gs)
two_groups g [] h = absurd (h refl)
two_groups g (x ∷ xs) h = omega arith

more_groups : (g : List PlainMatcher) (gs : List (List PlainMatcher)) → 2 ≤ length (g ∷ gs) → gs ≢ []
more_groups g gs two e = let none : length gs ≡ 0 = ap length e in omega arith

groups : (cs : List PlainMatcher) (gs : List (List PlainMatcher)) → AreGrouped (plain_matchers cs gs)
    → gs ≢ [] → (cs ≡ []) × (2 ≤ length gs) × AllByRecursion (λ g. g ≢ []) gs
groups cs [] h some = absurd (some refl)
groups cs (g ∷ gs) h some = (h.0, two_groups g gs h.1, h.2)

grouped : (cs : List PlainMatcher) (gs : List (List PlainMatcher))
    → (gs ≢ [] → (cs ≡ []) × (2 ≤ length gs) × AllByRecursion (λ g. g ≢ []) gs) → AreGrouped (plain_matchers cs gs)
grouped cs [] h = tt
grouped cs (g ∷ gs) h = let parts = h (λ e. cc) in (parts.0, more_groups g gs parts.1, parts.2)

pub groups_are : (cs : List PlainMatcher) (gs : List (List PlainMatcher)) → AreGrouped (plain_matchers cs gs)
    ↔ (gs ≢ [] → (cs ≡ []) × (2 ≤ length gs) × AllByRecursion (λ g. g ≢ []) gs)
groups_are cs gs = (groups cs gs, grouped cs gs)

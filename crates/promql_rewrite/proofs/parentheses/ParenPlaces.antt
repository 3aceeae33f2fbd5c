-- The tests of the places say what the conditions say, and what is in parentheses fits every place.
use Rattle.std.proofs.Common.{◌≡◌, ◌⊎◌, inl, inr, ◌≤◌, ◌<◌, ℕ, min, refl, ◌∙◌, ap, arith, Bool, true, false, cond, not, ◌&&◌, ◌||◌}
use Rattle.std.specs.Prelude.{◌==◌, nat_le, nat_lt}
use Rattle.std.proofs.lemmas.Bool.Decides.{Decides-eqb, Decides-ltb, leb_tells}
use Rattle.promql_text.specs.Values.{is_below_zero}
use Rattle.promql_text.specs.declared.number.Number.{Number}
use Rattle.promql_token.specs.declared.ids.TheConstants.{T_POW}
use Rattle.promql_grammar.specs.Grammar.{FitsLeft, precedence}
use Rattle.promql_grammar.specs.Parsing.{right_precedence}
use Rattle.promql_grammar.proofs.Precedences.{Band, band, need}
use Rattle.promql_ast.specs.Tree.{Tree, aggregate, unary, binary, paren, subquery, number, string, vector, matrix, call, extension, MaybeTree, absent, present, Trees, no_trees, first_tree}
use Rattle.promql_rewrite.specs.Parenthesizing.{all_parenthesized, at_place, binds_right, fits_left, fits_range, fits_right, fits_sign, maybe_parenthesized, parenthesized}
use Rattle.promql_rewrite.specs.Throughout.{Throughout, ThroughoutAll, ThroughoutMaybe}
use Rattle.promql_rewrite.specs.PrintableConditions.{IsNegated, IsRightSide, openness}
use Rattle.promql_rewrite.specs.PrintableNodes.{IsNodePlaced, IsSubqueried}

-- ---- tests

is_le : (a b : ℕ) → nat_le a b ≡ true → a ≤ b
is_le a b e = go (leb_tells a b)
  where
    go : ((nat_le a b ≡ true) × (a ≤ b)) ⊎ ((nat_le a b ≡ false) × (b < a)) → a ≤ b
    go (inl h) = h.1
    go (inr h) = cc

le_is : (a b : ℕ) → a ≤ b → nat_le a b ≡ true
le_is a b h = go (leb_tells a b)
  where
    go : ((nat_le a b ≡ true) × (a ≤ b)) ⊎ ((nat_le a b ≡ false) × (b < a)) → nat_le a b ≡ true
    go (inl k) = k.0
    go (inr k) = absurd (omega (arith, h, k.1))

not_le : (a b : ℕ) → nat_le a b ≡ false → b < a
not_le a b e = go (leb_tells a b)
  where
    go : ((nat_le a b ≡ true) × (a ≤ b)) ⊎ ((nat_le a b ≡ false) × (b < a)) → b < a
    go (inl h) = cc
    go (inr h) = h.1

pub left_fits : (op : ℕ) (t : Tree) → fits_left op t ≡ true → FitsLeft op (openness t)
left_fits op t e = is_le (need op) (openness t) e

pub fits_left_is : (op : ℕ) (t : Tree) → FitsLeft op (openness t) → fits_left op t ≡ true
fits_left_is op t h = le_is (need op) (openness t) h

pub left_misfits : (op : ℕ) (t : Tree) → fits_left op t ≡ false → openness t < need op
left_misfits op t e = not_le (need op) (openness t) e

either : (a b : Bool) → (a || b) ≡ true → (a ≡ true) ⊎ (b ≡ true)
either true b e = inl refl
either false b e = inr e

both : (a b : Bool) → (a && b) ≡ true → (a ≡ true) × (b ≡ true)
both true b e = (refl, e)
both false b e = cc

first_or : (a b : Bool) → a ≡ true → (a || b) ≡ true
first_or true b e = refl
first_or false b e = cc

second_or : (a b : Bool) → b ≡ true → (a || b) ≡ true
second_or true b e = refl
second_or false b e = e

both_and : (a b : Bool) → a ≡ true → b ≡ true → (a && b) ≡ true
both_and true b e f = f
both_and false b e f = cc

power : (op : ℕ) → (op == T_POW) ≡ true → op ≡ T_POW
power op e = (Decides-eqb op T_POW).0 e

power_is : (op : ℕ) → op ≡ T_POW → (op == T_POW) ≡ true
power_is op e = (Decides-eqb op T_POW).1 e

binds : (op inner : ℕ) → binds_right op inner ≡ true → (precedence op < precedence inner) ⊎ ((op ≡ T_POW) × (inner ≡ T_POW))
binds op inner e = go (either (nat_lt (precedence op) (precedence inner)) (op == T_POW && inner == T_POW) e)
  where
    go : (nat_lt (precedence op) (precedence inner) ≡ true) ⊎ ((op == T_POW && inner == T_POW) ≡ true) → (precedence op < precedence inner) ⊎ ((op ≡ T_POW) × (inner ≡ T_POW))
    go (inl less) = inl ((Decides-ltb (precedence op) (precedence inner)).0 less)
    go (inr two) = let t = both (op == T_POW) (inner == T_POW) two in inr (power op t.0, power inner t.1)

binds_is : (op inner : ℕ) → (precedence op < precedence inner) ⊎ ((op ≡ T_POW) × (inner ≡ T_POW)) → binds_right op inner ≡ true
binds_is op inner (inl less) = first_or (nat_lt (precedence op) (precedence inner)) (op == T_POW && inner == T_POW) ((Decides-ltb (precedence op) (precedence inner)).1 less)
binds_is op inner (inr two) = second_or (nat_lt (precedence op) (precedence inner)) (op == T_POW && inner == T_POW) (both_and (op == T_POW) (inner == T_POW) (power_is op two.0) (power_is inner two.1))

pub right_fits : (op : ℕ) (t : Tree) → fits_right op t ≡ true → IsRightSide op t
right_fits op (binary inner l r m) e = binds op inner e
right_fits op t e = tt

pub fits_right_is : (op : ℕ) (t : Tree) → IsRightSide op t → fits_right op t ≡ true
fits_right_is op (binary inner l r m) h = binds_is op inner h
fits_right_is op t h = refl

pub sign_fits : (t : Tree) → fits_sign t ≡ true → IsNegated t
sign_fits (binary op l r m) e = power op e
sign_fits (number n) e = cc
sign_fits t e = tt

pub fits_sign_is : (t : Tree) → IsNegated t → fits_sign t ≡ true
fits_sign_is (binary op l r m) h = power_is op h
fits_sign_is (number n) h = absurd h
fits_sign_is t h = refl

not_true : (b : Bool) → not b ≡ true → b ≡ false
not_true true e = cc
not_true false e = refl

pub range_fits : (t : Tree) → fits_range t ≡ true → IsSubqueried t
range_fits (unary e) h = cc
range_fits (binary op l r m) h = cc
range_fits (number n) h = not_true (is_below_zero n) h
range_fits t h = tt

pub fits_range_is : (t : Tree) → IsSubqueried t → fits_range t ≡ true
fits_range_is (unary e) h = absurd h
fits_range_is (binary op l r m) h = absurd h
fits_range_is (number n) h = ap not h
fits_range_is t h = refl

-- ---- in parentheses

-- what an operator needs on its left, from its precedence
needed : (l n a : ℕ) → Band l n a → (l ≤ 6) × ((n ≡ 7) ⊎ (n ≤ 5))
needed l n a (inl h) = (omega (arith, h.1), inl h.0)
needed l n a (inr h) = (omega (arith, h.2), inr (omega (arith, h.0, h.2)))

pub precedence_most : (op : ℕ) → precedence op ≤ 6
precedence_most op = let h = needed (precedence op) (need op) (right_precedence op) (band op) in h.0

pub need_gap : (op : ℕ) → (need op ≡ 7) ⊎ (need op ≤ 5)
need_gap op = let h = needed (precedence op) (need op) (right_precedence op) (band op) in h.1

at_most : (n : ℕ) → (n ≡ 7) ⊎ (n ≤ 5) → n ≤ 7
at_most n (inl h) = omega (arith, h)
at_most n (inr h) = omega (arith, h)

pub need_most : (op : ℕ) → need op ≤ 7
need_most op = at_most (need op) (need_gap op)

pub paren_left : (op : ℕ) (t : Tree) → FitsLeft op (openness (paren t))
paren_left op t = need_most op

-- ---- trees

module _ (fits : Tree → Bool) (Fits : Tree → Type 0) (tells : (t : Tree) → fits t ≡ true → Fits t) (parens : (t : Tree) → Fits (paren t)) where
  pub placed_there : (t : Tree) → Throughout IsNodePlaced t → Fits (at_place fits t) × Throughout IsNodePlaced (at_place fits t)
  placed_there t h = go (fits t) refl
    where
      go : (b : Bool) → fits t ≡ b → Fits (cond b t (paren t)) × Throughout IsNodePlaced (cond b t (paren t))
      go true is = (tells t is, h)
      go false is = (parens t, (tt, h))

left_placed : (op : ℕ) (t : Tree) → Throughout IsNodePlaced t → FitsLeft op (openness (at_place (fits_left op) t)) × Throughout IsNodePlaced (at_place (fits_left op) t)
left_placed op t h = placed_there (fits_left op) (λ t. FitsLeft op (openness t)) (left_fits op) (paren_left op) t h

right_placed : (op : ℕ) (t : Tree) → Throughout IsNodePlaced t → IsRightSide op (at_place (fits_right op) t) × Throughout IsNodePlaced (at_place (fits_right op) t)
right_placed op t h = placed_there (fits_right op) (IsRightSide op) (right_fits op) (λ t. tt) t h

sign_placed : (t : Tree) → Throughout IsNodePlaced t → IsNegated (at_place fits_sign t) × Throughout IsNodePlaced (at_place fits_sign t)
sign_placed t h = placed_there fits_sign IsNegated sign_fits (λ t. tt) t h

range_placed : (t : Tree) → Throughout IsNodePlaced t → IsSubqueried (at_place fits_range t) × Throughout IsNodePlaced (at_place fits_range t)
range_placed t h = placed_there fits_range IsSubqueried range_fits (λ t. tt) t h

mutual
  pub well_placed : (t : Tree) → Throughout IsNodePlaced (parenthesized t)
  well_placed (aggregate op e p m) = (tt, maybe_well_placed p, well_placed e)
  well_placed (unary e) = sign_placed (parenthesized e) (well_placed e)
  well_placed (binary op l r m) =
      let a = left_placed op (parenthesized l) (well_placed l) in
      let b = right_placed op (parenthesized r) (well_placed r) in
      ((a.0, b.0), a.1, b.1)
  well_placed (paren e) = (tt, well_placed e)
  well_placed (subquery e offset at range step) = range_placed (parenthesized e) (well_placed e)
  well_placed (number n) = tt
  well_placed (string s) = tt
  well_placed (vector s) = tt
  well_placed (matrix s range mode) = tt
  well_placed (call f ts) = (tt, all_well_placed ts)
  well_placed (extension name gives ts) = (tt, all_well_placed ts)

  maybe_well_placed : (p : MaybeTree) → ThroughoutMaybe IsNodePlaced (maybe_parenthesized p)
  maybe_well_placed absent = tt
  maybe_well_placed (present e) = well_placed e

  all_well_placed : (ts : Trees) → ThroughoutAll IsNodePlaced (all_parenthesized ts)
  all_well_placed no_trees = tt
  all_well_placed (first_tree t ts) = (well_placed t, all_well_placed ts)

-- ---- where all is well placed, nothing changes

unchanged_there : (fits : Tree → Bool) (t u : Tree) → u ≡ t → fits t ≡ true → at_place fits u ≡ t
unchanged_there fits t u e is = ap (at_place fits) e ∙ ap (λ b. cond b t (paren t)) is

mutual
  pub unchanged : (t : Tree) → Throughout IsNodePlaced t → parenthesized t ≡ t
  unchanged (aggregate op e p m) h = λ i. aggregate op (unchanged e h.2 i) (maybe_unchanged p h.1 i) m
  unchanged (unary e) h = ap unary (unchanged_there fits_sign e (parenthesized e) (unchanged e h.1) (fits_sign_is e h.0))
  unchanged (binary op l r m) h =
      let a = unchanged_there (fits_left op) l (parenthesized l) (unchanged l h.1) (fits_left_is op l h.0.0) in
      let b = unchanged_there (fits_right op) r (parenthesized r) (unchanged r h.2) (fits_right_is op r h.0.1) in
      λ i. binary op (a i) (b i) m
  unchanged (paren e) h = ap paren (unchanged e h.1)
  unchanged (subquery e offset at range step) h =
      ap (λ x. subquery x offset at range step) (unchanged_there fits_range e (parenthesized e) (unchanged e h.1) (fits_range_is e h.0))
  unchanged (number n) h = refl
  unchanged (string s) h = refl
  unchanged (vector s) h = refl
  unchanged (matrix s range mode) h = refl
  unchanged (call f ts) h = ap (call f) (all_unchanged ts h.1)
  unchanged (extension name gives ts) h = ap (extension name gives) (all_unchanged ts h.1)

  maybe_unchanged : (p : MaybeTree) → ThroughoutMaybe IsNodePlaced p → maybe_parenthesized p ≡ p
  maybe_unchanged absent h = refl
  maybe_unchanged (present e) h = ap present (unchanged e h)

  all_unchanged : (ts : Trees) → ThroughoutAll IsNodePlaced ts → all_parenthesized ts ≡ ts
  all_unchanged no_trees h = refl
  all_unchanged (first_tree t ts) h = λ i. first_tree (unchanged t h.0 i) (all_unchanged ts h.1 i)

-- ---- a well placed tree is as open as its root allows

-- what an operator of at most this precedence leaves
abbrev pub RootOpen : Tree → Type 0
RootOpen (unary e) = 5 ≤ openness e
RootOpen (binary op l r m) = min 5 (precedence op) ≤ openness r
RootOpen t = Unit {0}

open_number : (n : Number) → 5 ≤ openness (number n)
open_number n = go (is_below_zero n)
  where
    go : (b : Bool) → 5 ≤ cond b 5 7
    go true = omega arith
    go false = omega arith

power_high : (op : ℕ) → op ≡ T_POW → precedence op ≡ 6
power_high op e = ap precedence e

-- the openness of a binary tree, from those of its right side
open_sum : (p q o : ℕ) → p < q → min 5 q ≤ o → min 5 p ≤ min q o
open_sum p q o less h = omega arith

open_power : (p q o : ℕ) → p ≡ 6 → q ≡ 6 → min 5 q ≤ o → min 5 p ≤ min q o
open_power p q o e f h = omega arith

open_operand : (q o : ℕ) → q ≡ 6 → min 5 q ≤ o → 5 ≤ min q o
open_operand q o e h = omega arith

open_unary : (o : ℕ) → 5 ≤ o → 5 ≤ min 5 o
open_unary o h = omega arith

open_any : (p o : ℕ) → 5 ≤ o → min 5 p ≤ o
open_any p o h = omega arith

open_inner : (op inner : ℕ) (r : Tree) → (precedence op < precedence inner) ⊎ ((op ≡ T_POW) × (inner ≡ T_POW)) → min 5 (precedence inner) ≤ openness r → min 5 (precedence op) ≤ min (precedence inner) (openness r)
open_inner op inner r (inl less) h = open_sum (precedence op) (precedence inner) (openness r) less h
open_inner op inner r (inr two) h = open_power (precedence op) (precedence inner) (openness r) (power_high op two.0) (power_high inner two.1) h

mutual
  open_signed : (e : Tree) → Throughout IsNodePlaced e → IsNegated e → 5 ≤ openness e
  open_signed (unary e) h k = open_unary (openness e) (open_signed e h.1 h.0)
  open_signed (binary op l r m) h k = open_operand (precedence op) (openness r) (power_high op k) (open_right op r h.2 h.0.1)
  open_signed (number n) h k = absurd k
  open_signed t h k = omega arith

  open_right : (op : ℕ) (r : Tree) → Throughout IsNodePlaced r → IsRightSide op r → min 5 (precedence op) ≤ openness r
  open_right op (unary e) h k = open_any (precedence op) (openness (unary e)) (open_unary (openness e) (open_signed e h.1 h.0))
  open_right op (binary inner l r m) h k = open_inner op inner r k (open_right inner r h.2 h.0.1)
  open_right op (number n) h k = open_any (precedence op) (openness (number n)) (open_number n)
  open_right op t h k = open_any (precedence op) 7 (omega arith)

pub root_open : (t : Tree) → Throughout IsNodePlaced t → RootOpen t
root_open (unary e) h = open_signed e h.1 h.0
root_open (binary op l r m) h = open_right op r h.2 h.0.1
root_open t h = tt

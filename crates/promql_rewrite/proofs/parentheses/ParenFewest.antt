-- The added parentheses are the fewest.
use Rattle.std.proofs.Common.{◌≡◌, ◌⊎◌, inl, inr, ◌≤◌, ◌<◌, ℕ, min, refl, sym, ◌∙◌, subst, arith, Bool, true, false, cond}
use Rattle.promql_grammar.specs.Grammar.{precedence}
use Rattle.promql_grammar.proofs.Precedences.{need}
use Rattle.promql_ast.specs.Tree.{Tree, aggregate, unary, binary, paren, subquery, number, string, vector, matrix, call, extension, MaybeTree, absent, present, Trees, no_trees, first_tree}
use Rattle.promql_rewrite.specs.AddedByNode.{AddsByNode, same, added, in_aggregate, in_unary, in_binary, in_paren, in_subquery, in_call, in_extension, MaybeAddsByNode, neither, both, AllAddByNode, no_more, one_more}
use Rattle.promql_rewrite.specs.Parenthesizing.{all_parenthesized, at_place, fits_left, fits_range, fits_right, fits_sign, maybe_parenthesized, parenthesized}
use Rattle.promql_rewrite.specs.Throughout.{Throughout, ThroughoutAll, ThroughoutMaybe}
use Rattle.promql_rewrite.specs.PrintableConditions.{IsNegated, IsRightSide, openness}
use Rattle.promql_rewrite.specs.PrintableNodes.{IsNodePlaced, IsSubqueried}
use Rattle.promql_rewrite.proofs.parentheses.ParenPlaces.{fits_range_is, fits_right_is, fits_sign_is, left_misfits, need_gap, need_most, precedence_most, root_open, unchanged, well_placed}

-- ---- parentheses are added, and nothing else changes

added_there : (fits : Tree → Bool) (t u : Tree) → AddsByNode t u → AddsByNode t (at_place fits u)
added_there fits t u h = go (fits u)
  where
    go : (b : Bool) → AddsByNode t (cond b u (paren u))
    go true = h
    go false = added h

mutual
  pub adds : (t : Tree) → AddsByNode t (parenthesized t)
  adds (aggregate op e p m) = in_aggregate (adds e) (maybe_adds p)
  adds (unary e) = in_unary (added_there fits_sign e (parenthesized e) (adds e))
  adds (binary op l r m) = in_binary (added_there (fits_left op) l (parenthesized l) (adds l)) (added_there (fits_right op) r (parenthesized r) (adds r))
  adds (paren e) = in_paren (adds e)
  adds (subquery e offset at range step) = in_subquery (added_there fits_range e (parenthesized e) (adds e))
  adds (number n) = same
  adds (string s) = same
  adds (vector s) = same
  adds (matrix s range mode) = same
  adds (call f ts) = in_call (all_add ts)
  adds (extension name gives ts) = in_extension (all_add ts)

  maybe_adds : (p : MaybeTree) → MaybeAddsByNode p (maybe_parenthesized p)
  maybe_adds absent = neither
  maybe_adds (present e) = both (adds e)

  all_add : (ts : Trees) → AllAddByNode ts (all_parenthesized ts)
  all_add no_trees = no_more
  all_add (first_tree t ts) = one_more (adds t) (all_add ts)

-- ---- what does not fit a place that the tree with more parentheses fits has parentheses there

no : true ≡ false → ⊥
no e = cc

sign_wraps : {x u : Tree} → AddsByNode x u → fits_sign x ≡ false → IsNegated u → AddsByNode (paren x) u
sign_wraps {x = x} same misfits fits = absurd (no (sym (fits_sign_is x fits) ∙ misfits))
sign_wraps (added a) misfits fits = in_paren a
sign_wraps (in_binary {op = op} {l = l} {r = r} {m = m} a b) misfits fits = absurd (no (sym (fits_sign_is (binary op l r m) fits) ∙ misfits))
sign_wraps a misfits fits = absurd (no misfits)

range_wraps : {x u : Tree} → AddsByNode x u → fits_range x ≡ false → IsSubqueried u → AddsByNode (paren x) u
range_wraps {x = x} same misfits fits = absurd (no (sym (fits_range_is x fits) ∙ misfits))
range_wraps (added a) misfits fits = in_paren a
range_wraps (in_unary a) misfits fits = absurd fits
range_wraps (in_binary a b) misfits fits = absurd fits
range_wraps a misfits fits = absurd (no misfits)

right_wraps : {x u : Tree} (op : ℕ) → AddsByNode x u → fits_right op x ≡ false → IsRightSide op u → AddsByNode (paren x) u
right_wraps {x = x} op same misfits fits = absurd (no (sym (fits_right_is op x fits) ∙ misfits))
right_wraps op (added a) misfits fits = in_paren a
right_wraps op (in_binary {op = inner} {l = l} {r = r} {m = m} a b) misfits fits = absurd (no (sym (fits_right_is op (binary inner l r m) fits) ∙ misfits))
right_wraps op a misfits fits = absurd (no misfits)

unary_fits : (n o s : ℕ) → 5 ≤ o → min 5 o < n → n ≤ min 5 s → ⊥
unary_fits n o s wide less more = omega arith

binary_fits : (n p o s : ℕ) → (n ≡ 7) ⊎ (n ≤ 5) → p ≤ 6 → min 5 p ≤ o → min p o < n → n ≤ min p s → ⊥
binary_fits n p o s (inl e) most wide less more = omega arith
binary_fits n p o s (inr h) most wide less more = omega arith

closed_fits : (n : ℕ) → n ≤ 7 → 7 < n → ⊥
closed_fits n most less = omega arith

same_fits : (n o : ℕ) → o < n → n ≤ o → ⊥
same_fits n o less more = omega arith

left_wraps : {x u : Tree} (op : ℕ) → AddsByNode x u → Throughout IsNodePlaced x → openness x < need op → need op ≤ openness u → AddsByNode (paren x) u
left_wraps {x = x} op same placed less fits = absurd (same_fits (need op) (openness x) less fits)
left_wraps op (added a) placed less fits = in_paren a
left_wraps op (in_unary {e = e} {f = f} a) placed less fits = absurd (unary_fits (need op) (openness e) (openness f) (root_open (unary e) placed) less fits)
left_wraps op (in_binary {op = inner} {l = l} {r = r} {s = s} {m = m} a b) placed less fits =
    absurd (binary_fits (need op) (precedence inner) (openness r) (openness s) (need_gap op) (precedence_most inner) (root_open (binary inner l r m) placed) less fits)
left_wraps op a placed less fits = absurd (closed_fits (need op) (need_most op) less)

-- ---- so a tree with more parentheses that is well placed has at least those that are added

wrapped_there : (fits : Tree → Bool) (x u : Tree) → AddsByNode x u → (fits x ≡ false → AddsByNode (paren x) u) → AddsByNode (at_place fits x) u
wrapped_there fits x u a wraps = go (fits x) refl
  where
    go : (b : Bool) → fits x ≡ b → AddsByNode (cond b x (paren x)) u
    go true is = a
    go false is = wraps is

mutual
  pub fewest : (t u : Tree) → AddsByNode t u → Throughout IsNodePlaced u → AddsByNode (parenthesized t) u
  fewest t u same h = subst (λ x. AddsByNode x t) (sym (unchanged t h)) same
  fewest t u (added {u = v} a) h = added (fewest t v a h.1)
  fewest t u (in_aggregate {e = e} {f = f} {p = p} {q = q} a b) h = in_aggregate (fewest e f a h.2) (maybe_fewest p q b h.1)
  fewest t u (in_unary {e = e} {f = f} a) h =
      let x = parenthesized e in
      let less = fewest e f a h.1 in
      in_unary (wrapped_there fits_sign x f less (λ misfits. sign_wraps less misfits h.0))
  fewest t u (in_binary {op = op} {l = l} {r = r} {k = k} {s = s} a b) h =
      let x = parenthesized l in
      let y = parenthesized r in
      let left = fewest l k a h.1 in
      let right = fewest r s b h.2 in
      in_binary
      (wrapped_there (fits_left op) x k left (λ misfits. left_wraps op left (well_placed l) (left_misfits op x misfits) h.0.0))
      (wrapped_there (fits_right op) y s right (λ misfits. right_wraps op right misfits h.0.1))
  fewest t u (in_paren {e = e} {f = f} a) h = in_paren (fewest e f a h.1)
  fewest t u (in_subquery {e = e} {f = f} a) h =
      let x = parenthesized e in
      let less = fewest e f a h.1 in
      in_subquery (wrapped_there fits_range x f less (λ misfits. range_wraps less misfits h.0))
  fewest t u (in_call {ts = ts} {us = us} a) h = in_call (all_fewest ts us a h.1)
  fewest t u (in_extension {ts = ts} {us = us} a) h = in_extension (all_fewest ts us a h.1)

  maybe_fewest : (p q : MaybeTree) → MaybeAddsByNode p q → ThroughoutMaybe IsNodePlaced q → MaybeAddsByNode (maybe_parenthesized p) q
  maybe_fewest p q neither h = neither
  maybe_fewest p q (both {e = e} {f = f} a) h = both (fewest e f a h)

  all_fewest : (ts us : Trees) → AllAddByNode ts us → ThroughoutAll IsNodePlaced us → AllAddByNode (all_parenthesized ts) us
  all_fewest ts us no_more h = no_more
  all_fewest ts us (one_more {t = t} {u = u} {ts = rest} {us = more} a b) h = one_more (fewest t u a h.0) (all_fewest rest more b h.1)

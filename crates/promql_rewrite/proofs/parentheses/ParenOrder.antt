-- Of two trees of which each adds parentheses to the other neither adds any.
use Rattle.std.proofs.Common.{◌≡◌, ◌+◌, ◌≤◌, ℕ, refl, ap, arith}
use Rattle.promql_ast.specs.Tree.{Tree, aggregate, unary, binary, paren, subquery, number, string, vector, matrix, call, extension, MaybeTree, absent, present, Trees, no_trees, first_tree}
use Rattle.promql_rewrite.specs.AddedByNode.{AddsByNode, same, added, in_aggregate, in_unary, in_binary, in_paren, in_subquery, in_call, in_extension, MaybeAddsByNode, neither, both, AllAddByNode, no_more, one_more}
use Rattle.promql_rewrite.specs.Throughout.{Throughout}
use Rattle.promql_rewrite.specs.Parenthesizing.{parenthesized}
use Rattle.promql_rewrite.specs.PrintableNodes.{IsNodePlaced}
use Rattle.promql_rewrite.proofs.parentheses.ParenFewest.{adds, fewest}
use Rattle.promql_rewrite.proofs.parentheses.ParenPlaces.{well_placed}

-- how many parentheses a tree has
abbrev mutual
  parens : Tree → ℕ
  parens (aggregate op e p m) = parens e + maybe_parens p
  parens (unary e) = parens e
  parens (binary op l r m) = parens l + parens r
  parens (paren e) = 1 + parens e
  parens (subquery e offset at range step) = parens e
  parens (number n) = 0
  parens (string s) = 0
  parens (vector s) = 0
  parens (matrix s range mode) = 0
  parens (call f ts) = all_parens ts
  parens (extension name gives ts) = all_parens ts

  maybe_parens : MaybeTree → ℕ
  maybe_parens absent = 0
  maybe_parens (present e) = parens e

  all_parens : Trees → ℕ
  all_parens no_trees = 0
  all_parens (first_tree t ts) = parens t + all_parens ts

mutual
  more : (t u : Tree) → AddsByNode t u → parens t ≤ parens u
  more t u same = omega arith
  more t u (added {u = v} a) = omega (arith, more t v a)
  more t u (in_aggregate {e = e} {f = f} {p = p} {q = q} a b) = omega (arith, more e f a, maybe_more p q b)
  more t u (in_unary {e = e} {f = f} a) = more e f a
  more t u (in_binary {l = l} {r = r} {k = k} {s = s} a b) = omega (arith, more l k a, more r s b)
  more t u (in_paren {e = e} {f = f} a) = omega (arith, more e f a)
  more t u (in_subquery {e = e} {f = f} a) = more e f a
  more t u (in_call {ts = ts} {us = us} a) = all_more ts us a
  more t u (in_extension {ts = ts} {us = us} a) = all_more ts us a

  maybe_more : (p q : MaybeTree) → MaybeAddsByNode p q → maybe_parens p ≤ maybe_parens q
  maybe_more p q neither = omega arith
  maybe_more p q (both {e = e} {f = f} a) = more e f a

  all_more : (ts us : Trees) → AllAddByNode ts us → all_parens ts ≤ all_parens us
  all_more ts us no_more = omega arith
  all_more ts us (one_more {t = t} {u = u} {ts = rest} {us = others} a b) = omega (arith, more t u a, all_more rest others b)

mutual
  -- a tree that adds parentheses, and has no more of them, is the tree
  no_fewer : (t u : Tree) → AddsByNode t u → parens u ≤ parens t → t ≡ u
  no_fewer t u same h = refl
  no_fewer t u (added {u = v} a) h = absurd (omega (arith, more t v a, h))
  no_fewer t u (in_aggregate {op = op} {e = e} {f = f} {p = p} {q = q} {m = m} a b) h =
      let x = no_fewer e f a (omega (arith, maybe_more p q b, h)) in
      let y = maybe_no_fewer p q b (omega (arith, more e f a, h)) in
      λ i. aggregate op (x i) (y i) m
  no_fewer t u (in_unary {e = e} {f = f} a) h = ap unary (no_fewer e f a h)
  no_fewer t u (in_binary {op = op} {l = l} {r = r} {k = k} {s = s} {m = m} a b) h =
      let x = no_fewer l k a (omega (arith, more r s b, h)) in
      let y = no_fewer r s b (omega (arith, more l k a, h)) in
      λ i. binary op (x i) (y i) m
  no_fewer t u (in_paren {e = e} {f = f} a) h = ap paren (no_fewer e f a (omega (arith, h)))
  no_fewer t u (in_subquery {e = e} {f = f} {offset = offset} {at = at} {range = range} {step = step} a) h =
      ap (λ x. subquery x offset at range step) (no_fewer e f a h)
  no_fewer t u (in_call {f = f} {ts = ts} {us = us} a) h = ap (call f) (all_no_fewer ts us a h)
  no_fewer t u (in_extension {name = name} {gives = gives} {ts = ts} {us = us} a) h = ap (extension name gives) (all_no_fewer ts us a h)

  maybe_no_fewer : (p q : MaybeTree) → MaybeAddsByNode p q → maybe_parens q ≤ maybe_parens p → p ≡ q
  maybe_no_fewer p q neither h = refl
  maybe_no_fewer p q (both {e = e} {f = f} a) h = ap present (no_fewer e f a h)

  all_no_fewer : (ts us : Trees) → AllAddByNode ts us → all_parens us ≤ all_parens ts → ts ≡ us
  all_no_fewer ts us no_more h = refl
  all_no_fewer ts us (one_more {t = t} {u = u} {ts = rest} {us = others} a b) h =
      let x = no_fewer t u a (omega (arith, all_more rest others b, h)) in
      let y = all_no_fewer rest others b (omega (arith, more t u a, h)) in
      λ i. first_tree (x i) (y i)

pub only : (t u : Tree) → AddsByNode t u → Throughout IsNodePlaced u → ((v : Tree) → AddsByNode t v → Throughout IsNodePlaced v → AddsByNode u v) → u ≡ parenthesized t
only t u a placed least =
    let up = least (parenthesized t) (adds t) (well_placed t) in
    let down = fewest t u a placed in
    no_fewer u (parenthesized t) up (more (parenthesized t) u down)

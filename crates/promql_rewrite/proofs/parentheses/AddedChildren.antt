-- Parentheses are added to a node where they are to its children, and the other way round.
use Rattle.std.proofs.Common.{◌≡◌, ◌∙◌, ap, refl, subst, sym}
use Rattle.promql_text.specs.Texts.{Text}
use Rattle.promql_kind.specs.Functions.{Signature}
use Rattle.promql_kind.specs.declared.value.ValueType.{ValueType}
use Rattle.promql_ast.specs.Tree.{Tree, aggregate, unary, binary, paren, subquery, number, string, vector, matrix, call, extension, absent, present, Trees, no_trees, first_tree}
use Rattle.promql_walk.specs.ChangedChildren.{own_children}
use Rattle.promql_walk.specs.Children.{children, with_children}
use Rattle.promql_walk.proofs.OwnChildren.{children_are}
use Rattle.promql_rewrite.specs.AddedParens as parens
use Rattle.promql_rewrite.specs.AddedParens.{AddsParens, EachAddsParens, alike}
use Rattle.promql_rewrite.specs.AddedByNode.{AddsByNode, same, added, in_aggregate, in_unary, in_binary, in_paren, in_subquery, in_call, in_extension, neither, both, AllAddByNode, no_more, one_more}

-- ---- of so many trees

nothing : (ts us : Trees) → AllAddByNode ts us → us ≡ no_trees → ts ≡ no_trees
nothing ts us no_more is = refl
nothing ts us (one_more a b) is = absurd cc

abbrev First : Trees → Tree → Trees → Type 0
First ts u us = (x : Tree) × (xs : Trees) × (ts ≡ first_tree x xs) × AddsByNode x u × AllAddByNode xs us

first : (ts vs : Trees) (u : Tree) (us : Trees) → AllAddByNode ts vs → vs ≡ first_tree u us → First ts u us
first ts vs u us no_more is = absurd cc
first ts vs u us (one_more {t = x} {u = v} {ts = xs} {us = ws} a b) is =
    let one : v ≡ u = cc in
    let others : ws ≡ us = cc in
    (x, xs, refl, subst (λ w. AddsByNode x w) one a, subst (λ w. AllAddByNode xs w) others b)

abbrev One : Trees → Tree → Type 0
One ts u = (x : Tree) × (ts ≡ first_tree x no_trees) × AddsByNode x u

one : (ts : Trees) (u : Tree) → AllAddByNode ts (first_tree u no_trees) → One ts u
one ts u h =
    let f = first ts (first_tree u no_trees) u no_trees h refl in
    (f.0, f.2 ∙ ap (first_tree f.0) (nothing f.1 no_trees f.4 refl), f.3)

abbrev Two : Trees → Tree → Tree → Type 0
Two ts u v = (x : Tree) × (y : Tree) × (ts ≡ first_tree x (first_tree y no_trees)) × AddsByNode x u × AddsByNode y v

two : (ts : Trees) (u v : Tree) → AllAddByNode ts (first_tree u (first_tree v no_trees)) → Two ts u v
two ts u v h =
    let f = first ts (first_tree u (first_tree v no_trees)) u (first_tree v no_trees) h refl in
    let g = one f.1 v f.4 in
    (f.0, g.0, f.2 ∙ ap (first_tree f.0) g.1, f.3, g.2)

-- ---- a node with children without the parentheses

built : (u : Tree) (ts : Trees) → AllAddByNode ts (own_children u) → AddsByNode (with_children u ts) u
built (aggregate op e absent m) ts h =
    let o = one ts e h in
    subst (λ l. AddsByNode (with_children (aggregate op e absent m) l) (aggregate op e absent m)) (sym o.1) (in_aggregate o.2 neither)
built (aggregate op e (present p) m) ts h =
    let o = two ts p e h in
    subst (λ l. AddsByNode (with_children (aggregate op e (present p) m) l) (aggregate op e (present p) m)) (sym o.2) (in_aggregate o.4 (both o.3))
built (unary e) ts h = let o = one ts e h in subst (λ l. AddsByNode (with_children (unary e) l) (unary e)) (sym o.1) (in_unary o.2)
built (binary op l r m) ts h =
    let o = two ts l r h in
    subst (λ x. AddsByNode (with_children (binary op l r m) x) (binary op l r m)) (sym o.2) (in_binary o.3 o.4)
built (paren e) ts h = let o = one ts e h in subst (λ l. AddsByNode (with_children (paren e) l) (paren e)) (sym o.1) (in_paren o.2)
built (subquery e offset at range step) ts h =
    let o = one ts e h in
    subst (λ l. AddsByNode (with_children (subquery e offset at range step) l) (subquery e offset at range step)) (sym o.1) (in_subquery o.2)
built (number n) ts h = same
built (string s) ts h = same
built (vector s) ts h = same
built (matrix s range mode) ts h = same
built (call f args) ts h = in_call h
built (extension name gives es) ts h = in_extension h

mutual
  pub by_node : (t u : Tree) → AddsParens t u → AddsByNode t u
  by_node t u (parens.added {u = v} a) = added (by_node t v a)
  by_node t u (alike is each) =
      let h = subst (λ us. AllAddByNode (children t) us) (sym (children_are u)) (each_by_node (children t) (children u) each) in
      subst (λ x. AddsByNode x u) is (built u (children t) h)

  each_by_node : (ts us : Trees) → EachAddsParens ts us → AllAddByNode ts us
  each_by_node ts us parens.no_more = no_more
  each_by_node ts us (parens.one_more {t = t} {u = u} {ts = rest} {us = more} a b) = one_more (by_node t u a) (each_by_node rest more b)

-- ---- a node, by its children

called : (f : Signature) (ts us : Trees) → EachAddsParens ts us → AddsParens (call f ts) (call f us)
called f ts us each =
    alike (ap (call f) (sym (children_are (call f ts))))
    (subst (λ l. EachAddsParens l (children (call f us))) (children_are (call f ts)) (subst (λ l. EachAddsParens ts l) (children_are (call f us)) each))

extended : (name : Text) (gives : ValueType) (ts us : Trees) → EachAddsParens ts us → AddsParens (extension name gives ts) (extension name gives us)
extended name gives ts us each =
    alike (ap (extension name gives) (sym (children_are (extension name gives ts))))
    (subst (λ l. EachAddsParens l (children (extension name gives us))) (children_are (extension name gives ts))
    (subst (λ l. EachAddsParens ts l) (children_are (extension name gives us)) each))

mutual
  itself : (t : Tree) → AddsParens t t
  itself (aggregate op e absent m) = alike refl (parens.one_more (itself e) parens.no_more)
  itself (aggregate op e (present p) m) = alike refl (parens.one_more (itself p) (parens.one_more (itself e) parens.no_more))
  itself (unary e) = alike refl (parens.one_more (itself e) parens.no_more)
  itself (binary op l r m) = alike refl (parens.one_more (itself l) (parens.one_more (itself r) parens.no_more))
  itself (paren e) = alike refl (parens.one_more (itself e) parens.no_more)
  itself (subquery e offset at range step) = alike refl (parens.one_more (itself e) parens.no_more)
  itself (number n) = alike refl parens.no_more
  itself (string s) = alike refl parens.no_more
  itself (vector s) = alike refl parens.no_more
  itself (matrix s range mode) = alike refl parens.no_more
  itself (call f args) = called f args args (each_itself args)
  itself (extension name gives es) = extended name gives es es (each_itself es)

  each_itself : (ts : Trees) → EachAddsParens ts ts
  each_itself no_trees = parens.no_more
  each_itself (first_tree t ts) = parens.one_more (itself t) (each_itself ts)

mutual
  pub by_children : (t u : Tree) → AddsByNode t u → AddsParens t u
  by_children t u same = itself t
  by_children t u (added {u = v} a) = parens.added (by_children t v a)
  by_children t u (in_aggregate {e = e} {f = f} a neither) = alike refl (parens.one_more (by_children e f a) parens.no_more)
  by_children t u (in_aggregate {e = e} {f = f} a (both {e = p} {f = q} b)) =
      alike refl (parens.one_more (by_children p q b) (parens.one_more (by_children e f a) parens.no_more))
  by_children t u (in_unary {e = e} {f = f} a) = alike refl (parens.one_more (by_children e f a) parens.no_more)
  by_children t u (in_binary {l = l} {r = r} {k = k} {s = s} a b) =
      alike refl (parens.one_more (by_children l k a) (parens.one_more (by_children r s b) parens.no_more))
  by_children t u (in_paren {e = e} {f = f} a) = alike refl (parens.one_more (by_children e f a) parens.no_more)
  by_children t u (in_subquery {e = e} {f = f} a) = alike refl (parens.one_more (by_children e f a) parens.no_more)
  by_children t u (in_call {f = f} {ts = ts} {us = us} a) = called f ts us (each_by_children ts us a)
  by_children t u (in_extension {name = name} {gives = gives} {ts = ts} {us = us} a) = extended name gives ts us (each_by_children ts us a)

  each_by_children : (ts us : Trees) → AllAddByNode ts us → EachAddsParens ts us
  each_by_children ts us no_more = parens.no_more
  each_by_children ts us (one_more {t = t} {u = u} {ts = rest} {us = more} a b) = parens.one_more (by_children t u a) (each_by_children rest more b)

-- Changing walks, with equations for the results and the trees.
use Rattle.std.proofs.Common.{◌≡◌, ◌∙◌, ◌<◌, ◌≤◌, ℕ, zero, suc, ◌+◌, Bool, true, false, Result, Ok, Err, List, [], ◌∷◌, ◌++◌, length, map, take, drop, set, get_or, take_all, refl, sym, ap, subst, arith}
use Rattle.std.proofs.lemmas.List.{map-append, set_split, take_more_set, drop_all, drop_more, drop-set-lt}
use Rattle.promql_ast.specs.Height.{height, greatest_height}
use Rattle.promql_ast.specs.Tree.{Tree, Trees, no_trees, first_tree}
use Rattle.promql_ast.specs.View.{trees}
use Rattle.promql_walk.specs.Children.{children, with_children}
use Rattle.promql_walk.specs.ChangedChildren.{ChangesBelow, own_children}
use Rattle.promql_walk.proofs.OwnChildren.{children_are}
use Rattle.promql_walk.proofs.Walks.{IsEnd, ended}
use Rattle.promql_walk.specs.Changes.{Edit, Changes, ends_before, ends_below, goes_through, ChangesEach, no_more, ends_here, goes_on}

-- ---- lists

-- the trees of a list, and then others
abbrev pub onto : List Tree → Trees → Trees
onto [] ys = ys
onto (t ∷ ts) ys = first_tree t (onto ts ys)

onto_append : (ts us : List Tree) (ys : Trees) → onto (ts ++ us) ys ≡ onto ts (onto us ys)
onto_append [] us ys = refl
onto_append (t ∷ ts) us ys = ap (first_tree t) (onto_append ts us ys)

onto_trees : (ts us : List Tree) → onto ts (trees us) ≡ trees (ts ++ us)
onto_trees [] us = refl
onto_trees (t ∷ ts) us = ap (first_tree t) (onto_trees ts us)

onto_none : (ts : List Tree) → onto ts no_trees ≡ trees ts
onto_none [] = refl
onto_none (t ∷ ts) = ap (first_tree t) (onto_none ts)

-- one more that was changed
pub onto_more : {X : Type 0} (f : X → Tree) (xs : List X) (i : ℕ) (y : X) (ys : Trees) → i < length xs → onto (map f (take (i + 1) (set xs i y))) ys ≡ onto (map f (take i xs)) (first_tree (f y) ys)
onto_more f xs i y ys h =
    ap (λ l. onto (map f l) ys) (take_more_set xs i y h) ∙ ap (λ l. onto l ys) (map-append f (take i xs) (y ∷ [])) ∙ onto_append (map f (take i xs)) (f y ∷ []) ys

-- one that was changed, and the rest that was not
pub onto_rest : {X : Type 0} (f : X → Tree) (xs : List X) (i : ℕ) (y : X) → i < length xs → onto (map f (take i xs)) (first_tree (f y) (trees (map f (drop (i + 1) xs)))) ≡ trees (map f (set xs i y))
onto_rest f xs i y h =
    let next : i + 1 ≡ suc i = omega arith in
    ap (λ n. onto (map f (take i xs)) (first_tree (f y) (trees (map f (drop n xs))))) next
    ∙ onto_trees (map f (take i xs)) (f y ∷ map f (drop (suc i) xs)) ∙ ap trees (sym (map-append f (take i xs) (y ∷ drop (suc i) xs)))
    ∙ ap (λ l. trees (map f l)) (sym (set_split xs i y h))

-- all of them
pub onto_all : {X : Type 0} (f : X → Tree) (xs : List X) (i : ℕ) → length xs ≤ i → onto (map f (take i xs)) no_trees ≡ trees (map f xs)
onto_all f xs i h = onto_none (map f (take i xs)) ∙ ap (λ l. trees (map f l)) (take_all i xs h)

-- none of a list is higher than the highest
drop_no_higher : {X : Type 0} (f : X → Tree) (xs : List X) (i : ℕ) → greatest_height (trees (map f (drop i xs))) ≤ greatest_height (trees (map f xs))
drop_no_higher f [] zero = omega arith
drop_no_higher f [] (suc i) = omega arith
drop_no_higher f (x ∷ xs) zero = omega arith
drop_no_higher f (x ∷ xs) (suc i) = let below = drop_no_higher f xs i in omega arith

pub one_no_higher : {X : Type 0} (f : X → Tree) (xs before : List X) (i : ℕ) (d : X) → i < length xs → d ≡ get_or xs i d → drop i xs ≡ drop i before → height (f d) ≤ greatest_height (trees (map f before))
one_no_higher f xs before i d h is same =
    let these : drop i before ≡ d ∷ drop (i + 1) xs = sym same ∙ drop_more xs i d h ∙ ap (λ z. z ∷ drop (i + 1) xs) (sym is) in
    let first : greatest_height (trees (map f (drop i before))) ≡ greatest_height (trees (map f (d ∷ drop (i + 1) xs))) = ap (λ l. greatest_height (trees (map f l))) these in
    let all = drop_no_higher f before i in
    omega arith

-- ---- walks

module _ {S E : Type 0} (pre post : Edit S E) where
  at_children : (s : S) (t : Tree) (a : Result Bool E) (u : S) (ys : Trees) → ChangesEach pre post s (own_children t) a u ys → ChangesEach pre post s (children t) a u ys
  at_children s t a u ys h = subst (λ k. ChangesEach pre post s k a u ys) (children_are t) h

  pub before_as : (s : S) (t : Tree) (a z : Result Bool E) (u : S) (x : Tree) → IsEnd z → a ≡ z → pre s t a u x → Changes pre post s t z u x
  before_as s t a z u x end e p = ends_before (subst (λ b. pre s t b u x) e p) (ended z end)

  pub below_as : (s : S) (t : Tree) (a : Result Bool E) (u : S) (x : Tree) (b z : Result Bool E) (v : S) (y : Tree) → a ≡ Ok true → pre s t a u x → IsEnd z → b ≡ z → ChangesBelow pre post u x b v y → Changes pre post s t z v y
  below_as s t a u x b z v y e p end f (ys, (each, is)) =
      subst (λ k. Changes pre post s t z v k) (sym is)
      (ends_below (subst (λ r. pre s t r u x) e p) (at_children u x z v ys (subst (λ r. ChangesEach pre post u (own_children x) r v ys) f each)) (ended z end))

  pub through_as : (s : S) (t : Tree) (a : Result Bool E) (u : S) (x : Tree) (b : Result Bool E) (v : S) (y : Tree) (r : Result Bool E) (w : S) (z : Tree) → a ≡ Ok true → pre s t a u x → b ≡ Ok true → ChangesBelow pre post u x b v y → post v y r w z → Changes pre post s t r w z
  through_as s t a u x b v y r w z e p f (ys, (each, is)) q =
      goes_through (subst (λ k. pre s t k u x) e p) (at_children u x (Ok true) v ys (subst (λ k. ChangesEach pre post u (own_children x) k v ys) f each)) (subst (λ k. post v k r w z) is q)

  -- one child alone
  pub one : (s : S) (t : Tree) (a : Result Bool E) (u : S) (x : Tree) → Changes pre post s t a u x → ChangesEach pre post s (first_tree t no_trees) a u (first_tree x no_trees)
  one s t (Ok true) u x h = goes_on h no_more
  one s t (Ok false) u x h = ends_here h (ended (Ok false) tt)
  one s t (Err e) u x h = ends_here h (ended (Err e) tt)

  pub on_as : (s : S) (t : Tree) (ts : Trees) (a : Result Bool E) (u : S) (x : Tree) (b : Result Bool E) (v : S) (xs : Trees) → a ≡ Ok true → Changes pre post s t a u x → ChangesEach pre post u ts b v xs → ChangesEach pre post s (first_tree t ts) b v (first_tree x xs)
  on_as s t ts a u x b v xs e h k = goes_on (subst (λ r. Changes pre post s t r u x) e h) k

  pub here_as : (s : S) (t : Tree) (ts : Trees) (a z : Result Bool E) (u : S) (x : Tree) → IsEnd z → a ≡ z → Changes pre post s t a u x → ChangesEach pre post s (first_tree t ts) z u (first_tree x ts)
  here_as s t ts a z u x end e h = ends_here (subst (λ r. Changes pre post s t r u x) e h) (ended z end)

  -- the same of trees that are reached by another way
  pub same : (s : S) (t x : Tree) (a : Result Bool E) (u : S) (y z : Tree) → t ≡ x → y ≡ z → Changes pre post s t a u y → Changes pre post s x a u z
  same s t x a u y z e f h = subst (λ k. Changes pre post s k a u z) e (subst (λ k. Changes pre post s t a u k) f h)

  pub same_below : (s : S) (t x : Tree) (a : Result Bool E) (u : S) (y z : Tree) → t ≡ x → z ≡ y → ChangesBelow pre post s x a u y → ChangesBelow pre post s t a u z
  same_below s t x a u y z e f h = subst (λ k. ChangesBelow pre post s k a u z) (sym e) (subst (λ k. ChangesBelow pre post s x a u k) (sym f) h)

  pub same_each : (s : S) (ts xs : Trees) (a : Result Bool E) (u : S) (ys zs : Trees) → ts ≡ xs → ys ≡ zs → ChangesEach pre post s ts a u ys → ChangesEach pre post s xs a u zs
  same_each s ts xs a u ys zs e f h = subst (λ k. ChangesEach pre post s k a u zs) e (subst (λ k. ChangesEach pre post s ts a u k) f h)

  -- a node without children
  pub leaf_as : (s : S) (t u : Tree) → t ≡ u → own_children u ≡ no_trees → with_children u no_trees ≡ u → ChangesBelow pre post s t (Ok true) s t
  leaf_as s t u e f h =
      (no_trees, (subst (λ k. ChangesEach pre post s k (Ok true) s no_trees) (sym (ap own_children e ∙ f)) no_more, e ∙ sym h ∙ sym (ap (λ k. with_children k no_trees) e)))

  -- the same by another way to the node
  pub from_below : (s : S) (t x : Tree) (a : Result Bool E) (u : S) (y z : Tree) → ChangesBelow pre post s x a u y → t ≡ x → z ≡ y → ChangesBelow pre post s t a u z
  from_below s t x a u y z h e f = same_below s t x a u y z e f h

  module _ {X : Type 0} (f : X → Tree) (before : List X) (start : S) where
    -- whatever the walk of the rest gives, the walk of the whole list gives after what it gave so far
    abbrev pub GoesOn : List X → ℕ → S → Type 0
    GoesOn xs i s = (r : Result Bool E) (t : S) (ys : Trees) → ChangesEach pre post s (trees (map f (drop i xs))) r t ys → ChangesEach pre post start (trees (map f before)) r t (onto (map f (take i xs)) ys)

    pub each_more : (xs : List X) (i : ℕ) (d y : X) (s : S) (a : Result Bool E) (u : S) → i < length xs → d ≡ get_or xs i d → a ≡ Ok true → Changes pre post s (f d) a u (f y) → GoesOn xs i s → GoesOn (set xs i y) (i + 1) u
    each_more xs i d y s a u h is e one more r t ys k =
        let rest : drop (i + 1) (set xs i y) ≡ drop (i + 1) xs = drop-set-lt (i + 1) xs i y (omega arith) in
        let these : drop i xs ≡ d ∷ drop (i + 1) xs = drop_more xs i d h ∙ ap (λ z. z ∷ drop (i + 1) xs) (sym is) in
        subst (λ zs. ChangesEach pre post start (trees (map f before)) r t zs) (sym (onto_more f xs i y ys h))
        (more r t (first_tree (f y) ys)
        (subst (λ l. ChangesEach pre post s (trees (map f l)) r t (first_tree (f y) ys)) (sym these)
        (on_as s (f d) (trees (map f (drop (i + 1) xs))) a u (f y) r t ys e one (subst (λ l. ChangesEach pre post u (trees (map f l)) r t ys) rest k))))

    pub each_ends : (xs : List X) (i : ℕ) (d y : X) (s : S) (a z : Result Bool E) (u : S) → i < length xs → d ≡ get_or xs i d → IsEnd z → a ≡ z → Changes pre post s (f d) a u (f y) → GoesOn xs i s → ChangesEach pre post start (trees (map f before)) z u (trees (map f (set xs i y)))
    each_ends xs i d y s a z u h is end e one more =
        let these : drop i xs ≡ d ∷ drop (i + 1) xs = drop_more xs i d h ∙ ap (λ z. z ∷ drop (i + 1) xs) (sym is) in
        subst (λ zs. ChangesEach pre post start (trees (map f before)) z u zs) (onto_rest f xs i y h)
        (more z u (first_tree (f y) (trees (map f (drop (i + 1) xs))))
        (subst (λ l. ChangesEach pre post s (trees (map f l)) z u (first_tree (f y) (trees (map f (drop (i + 1) xs))))) (sym these)
        (here_as s (f d) (trees (map f (drop (i + 1) xs))) a z u (f y) end e one)))

    pub each_all : (xs : List X) (i : ℕ) (s : S) → length xs ≤ i → GoesOn xs i s → ChangesEach pre post start (trees (map f before)) (Ok true) s (trees (map f xs))
    each_all xs i s h more =
        subst (λ zs. ChangesEach pre post start (trees (map f before)) (Ok true) s zs) (onto_all f xs i h)
        (more (Ok true) s no_trees (subst (λ l. ChangesEach pre post s (trees (map f l)) (Ok true) s no_trees) (sym (drop_all i xs h)) no_more))

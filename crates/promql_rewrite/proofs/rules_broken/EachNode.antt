-- What holds throughout a tree holds at each of its nodes, and the first node that is wrong is the first of the list of them.
use Rattle.std.proofs.Common.{◌⊎◌, inl, inr, List, [], ◌∷◌, ◌++◌, ⊎_elim}
use Rattle.std.specs.List.{AllByRecursion}
use Rattle.promql_ast.specs.Tree.{Tree, aggregate, unary, binary, paren, subquery, number, string, vector, matrix, call, extension, MaybeTree, absent, present, Trees, no_trees, first_tree}
use Rattle.promql_rewrite.specs.Collecting.{all_nodes, maybe_nodes, nodes_of, nodes_within}
use Rattle.promql_rewrite.specs.Everywhere.{Everywhere}
use Rattle.promql_rewrite.specs.Throughout.{FirstWithin, FirstWithinAll, FirstWithinMaybe, FirstWrong, Throughout, ThroughoutAll, ThroughoutMaybe}

-- ---- at each node

module _ (P : Tree → Type 0) where
  joined : (xs ys : List Tree) → AllByRecursion P xs → AllByRecursion P ys → AllByRecursion P (xs ++ ys)
  joined [] ys h k = k
  joined (x ∷ xs) ys h k = (h.0, joined xs ys h.1 k)

  parted : (xs ys : List Tree) → AllByRecursion P (xs ++ ys) → AllByRecursion P xs × AllByRecursion P ys
  parted [] ys h = (tt, h)
  parted (x ∷ xs) ys h = let rest = parted xs ys h.1 in ((h.0, rest.0), rest.1)

  pub imply : (Q : Tree → Type 0) → ((t : Tree) → P t → Q t) → (xs : List Tree) → AllByRecursion P xs → AllByRecursion Q xs
  imply Q f [] h = tt
  imply Q f (x ∷ xs) h = (f x h.0, imply Q f xs h.1)

  mutual
    pub listed : (t : Tree) → Throughout P t → Everywhere P t
    listed (aggregate op e p m) h = (h.0, joined (maybe_nodes p) (nodes_of e) (maybe_listed p h.1) (listed e h.2))
    listed (unary e) h = (h.0, listed e h.1)
    listed (binary op l r m) h = (h.0, joined (nodes_of l) (nodes_of r) (listed l h.1) (listed r h.2))
    listed (paren e) h = (h.0, listed e h.1)
    listed (subquery e offset at range step) h = (h.0, listed e h.1)
    listed (number n) h = (h, tt)
    listed (string s) h = (h, tt)
    listed (vector s) h = (h, tt)
    listed (matrix s range mode) h = (h, tt)
    listed (call f ts) h = (h.0, all_listed ts h.1)
    listed (extension name gives ts) h = (h.0, all_listed ts h.1)

    pub maybe_listed : (p : MaybeTree) → ThroughoutMaybe P p → AllByRecursion P (maybe_nodes p)
    maybe_listed absent h = tt
    maybe_listed (present e) h = listed e h

    all_listed : (ts : Trees) → ThroughoutAll P ts → AllByRecursion P (all_nodes ts)
    all_listed no_trees h = tt
    all_listed (first_tree t ts) h = joined (nodes_of t) (all_nodes ts) (listed t h.0) (all_listed ts h.1)

  mutual
    pub throughout : (t : Tree) → Everywhere P t → Throughout P t
    throughout (aggregate op e p m) h = let two = parted (maybe_nodes p) (nodes_of e) h.1 in (h.0, maybe_throughout p two.0, throughout e two.1)
    throughout (unary e) h = (h.0, throughout e h.1)
    throughout (binary op l r m) h = let two = parted (nodes_of l) (nodes_of r) h.1 in (h.0, throughout l two.0, throughout r two.1)
    throughout (paren e) h = (h.0, throughout e h.1)
    throughout (subquery e offset at range step) h = (h.0, throughout e h.1)
    throughout (number n) h = h.0
    throughout (string s) h = h.0
    throughout (vector s) h = h.0
    throughout (matrix s range mode) h = h.0
    throughout (call f ts) h = (h.0, all_throughout ts h.1)
    throughout (extension name gives ts) h = (h.0, all_throughout ts h.1)

    maybe_throughout : (p : MaybeTree) → AllByRecursion P (maybe_nodes p) → ThroughoutMaybe P p
    maybe_throughout absent h = tt
    maybe_throughout (present e) h = throughout e h

    all_throughout : (ts : Trees) → AllByRecursion P (all_nodes ts) → ThroughoutAll P ts
    all_throughout no_trees h = tt
    all_throughout (first_tree t ts) h = let two = parted (nodes_of t) (all_nodes ts) h in (throughout t two.0, all_throughout ts two.1)

-- ---- the first that is wrong

module _ (Fine Wrong : Tree → Type 0) where
  -- of a list

  here : (x : Tree) (xs : List Tree) → Wrong x → FirstWrong Fine Wrong (x ∷ xs)
  here x xs h = inl h

  later : (x : Tree) (xs : List Tree) → Fine x → FirstWrong Fine Wrong xs → FirstWrong Fine Wrong (x ∷ xs)
  later x xs h k = inr (h, k)

  here_or_later : (x : Tree) (xs : List Tree) → FirstWrong Fine Wrong (x ∷ xs) → Wrong x ⊎ (Fine x × FirstWrong Fine Wrong xs)
  here_or_later x xs h = h

  -- of two lists

  in_none : FirstWrong Fine Wrong [] → ⊥
  in_none h = h

  in_first : (xs ys : List Tree) → FirstWrong Fine Wrong xs → FirstWrong Fine Wrong (xs ++ ys)
  in_first [] ys h = absurd (in_none h)
  in_first (x ∷ xs) ys h = ⊎_elim (here x (xs ++ ys)) (λ k. later x (xs ++ ys) k.0 (in_first xs ys k.1)) (here_or_later x xs h)

  in_second : (xs ys : List Tree) → AllByRecursion Fine xs → FirstWrong Fine Wrong ys → FirstWrong Fine Wrong (xs ++ ys)
  in_second [] ys h k = k
  in_second (x ∷ xs) ys h k = later x (xs ++ ys) h.0 (in_second xs ys h.1 k)

  in_either : (xs ys : List Tree) → FirstWrong Fine Wrong (xs ++ ys) → FirstWrong Fine Wrong xs ⊎ (AllByRecursion Fine xs × FirstWrong Fine Wrong ys)
  in_either [] ys h = inr (tt, h)
  in_either (x ∷ xs) ys h =
      ⊎_elim (λ k. inl (here x xs k))
      (λ k. ⊎_elim (λ j. inl (later x xs k.0 j)) (λ j. inr ((k.0, j.0), j.1)) (in_either xs ys k.1))
      (here_or_later x (xs ++ ys) h)

  -- of a tree

  below : (t : Tree) {A : Type 0} → (A → FirstWrong Fine Wrong (nodes_within t)) → Wrong t ⊎ (Fine t × A) → FirstWrong Fine Wrong (nodes_of t)
  below t f h = ⊎_elim (here t (nodes_within t)) (λ k. later t (nodes_within t) k.0 (f k.1)) h

  mutual
    pub first_listed : (t : Tree) → FirstWithin Fine Wrong t → FirstWrong Fine Wrong (nodes_of t)
    first_listed (aggregate op e p m) h =
        below (aggregate op e p m)
        (⊎_elim (λ j. in_first (maybe_nodes p) (nodes_of e) (maybe_first_listed p j)) (λ j. in_second (maybe_nodes p) (nodes_of e) (maybe_listed Fine p j.0) (first_listed e j.1))) h
    first_listed (unary e) h = below (unary e) (first_listed e) h
    first_listed (binary op l r m) h =
        below (binary op l r m)
        (⊎_elim (λ j. in_first (nodes_of l) (nodes_of r) (first_listed l j)) (λ j. in_second (nodes_of l) (nodes_of r) (listed Fine l j.0) (first_listed r j.1))) h
    first_listed (paren e) h = below (paren e) (first_listed e) h
    first_listed (subquery e offset at range step) h = below (subquery e offset at range step) (first_listed e) h
    first_listed (number n) h = here (number n) [] h
    first_listed (string s) h = here (string s) [] h
    first_listed (vector s) h = here (vector s) [] h
    first_listed (matrix s range mode) h = here (matrix s range mode) [] h
    first_listed (call f ts) h = below (call f ts) (all_first_listed ts) h
    first_listed (extension name gives ts) h = below (extension name gives ts) (all_first_listed ts) h

    maybe_first_listed : (p : MaybeTree) → FirstWithinMaybe Fine Wrong p → FirstWrong Fine Wrong (maybe_nodes p)
    maybe_first_listed absent h = absurd h
    maybe_first_listed (present e) h = first_listed e h

    all_first_listed : (ts : Trees) → FirstWithinAll Fine Wrong ts → FirstWrong Fine Wrong (all_nodes ts)
    all_first_listed no_trees h = absurd h
    all_first_listed (first_tree t ts) h =
        ⊎_elim (λ j. in_first (nodes_of t) (all_nodes ts) (first_listed t j)) (λ j. in_second (nodes_of t) (all_nodes ts) (listed Fine t j.0) (all_first_listed ts j.1)) h

  at_leaf : (t : Tree) → FirstWrong Fine Wrong (t ∷ []) → Wrong t
  at_leaf t h = ⊎_elim (λ k. k) (λ k. absurd (in_none k.1)) (here_or_later t [] h)

  within : (t : Tree) {A : Type 0} → (FirstWrong Fine Wrong (nodes_within t) → A) → FirstWrong Fine Wrong (nodes_of t) → Wrong t ⊎ (Fine t × A)
  within t f h = ⊎_elim inl (λ k. inr (k.0, f k.1)) (here_or_later t (nodes_within t) h)

  mutual
    pub first_within : (t : Tree) → FirstWrong Fine Wrong (nodes_of t) → FirstWithin Fine Wrong t
    first_within (aggregate op e p m) h =
        within (aggregate op e p m)
        (λ k. ⊎_elim (λ j. inl (maybe_first_within p j)) (λ j. inr (maybe_throughout Fine p j.0, first_within e j.1)) (in_either (maybe_nodes p) (nodes_of e) k)) h
    first_within (unary e) h = within (unary e) (first_within e) h
    first_within (binary op l r m) h =
        within (binary op l r m)
        (λ k. ⊎_elim (λ j. inl (first_within l j)) (λ j. inr (throughout Fine l j.0, first_within r j.1)) (in_either (nodes_of l) (nodes_of r) k)) h
    first_within (paren e) h = within (paren e) (first_within e) h
    first_within (subquery e offset at range step) h = within (subquery e offset at range step) (first_within e) h
    first_within (number n) h = at_leaf (number n) h
    first_within (string s) h = at_leaf (string s) h
    first_within (vector s) h = at_leaf (vector s) h
    first_within (matrix s range mode) h = at_leaf (matrix s range mode) h
    first_within (call f ts) h = within (call f ts) (all_first_within ts) h
    first_within (extension name gives ts) h = within (extension name gives ts) (all_first_within ts) h

    maybe_first_within : (p : MaybeTree) → FirstWrong Fine Wrong (maybe_nodes p) → FirstWithinMaybe Fine Wrong p
    maybe_first_within absent h = in_none h
    maybe_first_within (present e) h = first_within e h

    all_first_within : (ts : Trees) → FirstWrong Fine Wrong (all_nodes ts) → FirstWithinAll Fine Wrong ts
    all_first_within no_trees h = in_none h
    all_first_within (first_tree t ts) h =
        ⊎_elim (λ j. inl (first_within t j)) (λ j. inr (throughout Fine t j.0, all_first_within ts j.1)) (in_either (nodes_of t) (all_nodes ts) h)

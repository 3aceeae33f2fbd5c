-- What a walk that may change the tree does (docs/reference/walks.md, "Changing walks").
use Rattle.std.specs.Prelude.{◌≡◌, ◌≢◌, ◌⊎◌, Bool, true, Result, Ok}
use Rattle.promql_ast.specs.Tree.{Tree, Trees, no_trees, first_tree}
use Rattle.promql_walk.specs.Children.{children, with_children}

-- what a call of a visitor may do: the visitor and the node before, the result, both after
abbrev pub Edit : Type 0 → Type 0 → Type 1
Edit S E = S → Tree → Result Bool E → S → Tree → Type 0

-- what a call that does nothing and goes on does, or what `gives` allows
abbrev pub EditsOr : {S E : Type 0} → Edit S E → Edit S E
EditsOr gives s t r u x = ((r ≡ Ok true) × ((u ≡ s) × (x ≡ t))) ⊎ gives s t r u x

mutual
  -- A visitor that was s walks a tree that was t: the result is a, and they are u and x after. `pre` and `post` are what
  -- its two calls may do. What is not `Ok true` ends the walk.
  pub data Changes {S E : Type 0} (pre post : Edit S E) : S → Tree → Result Bool E → S → Tree → Type 0 where
    -- the call before the node ends it
    ends_before : {s u : S} {t x : Tree} {a : Result Bool E} → pre s t a u x → a ≢ Ok true → Changes pre post s t a u x
    -- a call at the new node's children ends it
    ends_below : {s u v : S} {t x : Tree} {ys : Trees} {a : Result Bool E}
        → pre s t (Ok true) u x → ChangesEach pre post u (children x) a v ys → a ≢ Ok true → Changes pre post s t a v (with_children x ys)
    -- the call after the children is the last
    goes_through : {s u v w : S} {t x z : Tree} {ys : Trees} {a : Result Bool E}
        → pre s t (Ok true) u x → ChangesEach pre post u (children x) (Ok true) v ys
        → post v (with_children x ys) a w z → Changes pre post s t a w z

  -- the same of a list of trees, one by one
  pub data ChangesEach {S E : Type 0} (pre post : Edit S E) : S → Trees → Result Bool E → S → Trees → Type 0 where
    no_more : {s : S} → ChangesEach pre post s no_trees (Ok true) s no_trees
    ends_here : {s u : S} {t x : Tree} {ts : Trees} {a : Result Bool E}
        → Changes pre post s t a u x → a ≢ Ok true → ChangesEach pre post s (first_tree t ts) a u (first_tree x ts)
    goes_on : {s u v : S} {t x : Tree} {ts xs : Trees} {a : Result Bool E} → Changes pre post s t (Ok true) u x
        → ChangesEach pre post u ts a v xs → ChangesEach pre post s (first_tree t ts) a v (first_tree x xs)

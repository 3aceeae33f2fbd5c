-- Walks along two lists of events, one after the other.
use Rattle.std.proofs.Common.{◌≡◌, ◌≢◌, ◌∙◌, inl, inr, ◌<◌, ℕ, zero, suc, ◌+◌, length, get_or, drop, arith, Bool, true, false, List, [], ◌∷◌, ◌++◌, Result, Ok, Err, refl, subst, sym, ap, Box, Global}
use Rattle.promql_ast.specs.Tree.{Tree}
use Rattle.promql_ast.specs.View.{tree_of, trees_of, children_of}
use Rattle.promql_ast.specs.declared.expr.Expr.{Expr}
use Rattle.promql_json.specs.Events.{Event, before, after, events, inner_events, all_events}
use Rattle.promql_walk.specs.WalkSteps.{Visit, WalksAlong}

-- z is a result that ends a walk
abbrev pub IsEnd : {E : Type 0} → Result Bool E → Type 0
IsEnd (Ok true) = ⊥
IsEnd (Ok false) = Unit {0}
IsEnd (Err e) = Unit {0}

pub ended : {E : Type 0} (z : Result Bool E) → IsEnd z → z ≢ Ok true
ended (Ok true) end = λ is. end
ended (Ok false) end = λ is. cc
ended (Err e) end = λ is. cc

module _ {X S E : Type 0} (step : X → S → Result Bool E → S → Type 0) where
  pub walks_one : (x : X) (s : S) (r : Result Bool E) (t : S) → step x s r t → WalksAlong step (x ∷ []) s r t
  walks_one x s (Ok true) t h = inr (t, (h, (refl, refl)))
  walks_one x s (Ok false) t h = inl (ended (Ok false) tt, h)
  walks_one x s (Err e) t h = inl (ended (Err e) tt, h)

  went_on : (xs ys : List X) (s u : S) (r : Result Bool E) (t : S) → WalksAlong step xs s (Ok true) u → WalksAlong step ys u r t → WalksAlong step (xs ++ ys) s r t
  went_on [] ys s u r t h k = subst (λ w. WalksAlong step ys w r t) h.1 k
  went_on (x ∷ xs) ys s u r t (inl h) k = absurd (h.0 refl)
  went_on (x ∷ xs) ys s u r t (inr (v, (st, more))) k = inr (v, (st, went_on xs ys v u r t more k))

  stopped : (xs ys : List X) (s : S) (r : Result Bool E) (t : S) → r ≢ Ok true → WalksAlong step xs s r t → WalksAlong step (xs ++ ys) s r t
  stopped [] ys s r t ends h = absurd (ends h.0)
  stopped (x ∷ xs) ys s r t ends (inl h) = inl h
  stopped (x ∷ xs) ys s r t ends (inr (v, (st, more))) = inr (v, (st, stopped xs ys v r t ends more))

  pub walked_both : (xs ys : List X) (s : S) (a : Result Bool E) (u : S) (r : Result Bool E) (t : S) → a ≡ Ok true → WalksAlong step xs s a u → WalksAlong step ys u r t → WalksAlong step (xs ++ ys) s r t
  walked_both xs ys s a u r t is h k = went_on xs ys s u r t (subst (λ b. WalksAlong step xs s b u) is h) k

  pub walked_stops : (xs ys : List X) (s : S) (a : Result Bool E) (u : S) (b : Result Bool E) → IsEnd b → a ≡ b → WalksAlong step xs s a u → WalksAlong step (xs ++ ys) s b u
  walked_stops xs ys s a u b ends is h = stopped xs ys s b u (ended b ends) (subst (λ c. WalksAlong step xs s c u) is h)

module _ {S E : Type 0} (pre post : S → Tree → Result Bool E → S → Type 0) where
  abbrev W : List Event → S → Result Bool E → S → Type 0
  W = WalksAlong (Visit pre post)

  -- all of a node: before it, its children, after it
  pub whole : (e : Tree) (s u v : S) (a b r : Result Bool E) (t : S) → pre s e a u → a ≡ Ok true → W (inner_events e) u b v → b ≡ Ok true → post v e r t → W (events e) s r t
  whole e s u v a b r t p pe i ie q =
      walked_both (Visit pre post) (before e ∷ []) (inner_events e ++ after e ∷ []) s a u r t pe (walks_one (Visit pre post) (before e) s a u p)
      (walked_both (Visit pre post) (inner_events e) (after e ∷ []) u b v r t ie i (walks_one (Visit pre post) (after e) v r t q))

  pub ends_inside : (e : Tree) (s u v : S) (a b z : Result Bool E) → pre s e a u → a ≡ Ok true → W (inner_events e) u b v → IsEnd z → b ≡ z → W (events e) s z v
  ends_inside e s u v a b z p pe i ends is =
      walked_both (Visit pre post) (before e ∷ []) (inner_events e ++ after e ∷ []) s a u z v pe (walks_one (Visit pre post) (before e) s a u p)
      (walked_stops (Visit pre post) (inner_events e) (after e ∷ []) u b v z ends is i)

  pub ends_before : (e : Tree) (s u : S) (a z : Result Bool E) → pre s e a u → IsEnd z → a ≡ z → W (events e) s z u
  ends_before e s u a z p ends is =
      walked_stops (Visit pre post) (before e ∷ []) (inner_events e ++ after e ∷ []) s a u z ends is (walks_one (Visit pre post) (before e) s a u p)

  -- the same walk of an expression that was reached by another way
  pub walked_as : (d e : Expr) (s : S) (r : Result Bool E) (t : S) → d ≡ e → W (events (tree_of d)) s r t → W (events (tree_of e)) s r t
  walked_as d e s r t is = subst (λ x. W (events (tree_of x)) s r t) is

  -- the same walk of the children of an expression, by the tree that the expression is
  pub walked_below : (e : Expr) (x : Tree) (s : S) (r : Result Bool E) (t : S) → tree_of e ≡ x → W (inner_events x) s r t → W (inner_events (tree_of e)) s r t
  walked_below e x s r t is = subst (λ y. W (inner_events y) s r t) (sym is)

  -- one more of a list of trees
  pub next_goes : {X : Type 0} (f : X → Tree) (all : List X → List Event) → ((x : X) (xs : List X) → all (x ∷ xs) ≡ events (f x) ++ all xs)
      → (xs : List X) (x : X) (rest : List X) (s : S) (a : Result Bool E) (u : S) (r : Result Bool E) (t : S) → xs ≡ x ∷ rest → a ≡ Ok true → W (events (f x)) s a u → W (all rest) u r t → W (all xs) s r t
  next_goes f all more xs x rest s a u r t is go h k =
      subst (λ es. W es s r t) (sym (ap all is ∙ more x rest)) (walked_both (Visit pre post) (events (f x)) (all rest) s a u r t go h k)

  pub next_ends : {X : Type 0} (f : X → Tree) (all : List X → List Event) → ((x : X) (xs : List X) → all (x ∷ xs) ≡ events (f x) ++ all xs)
      → (xs : List X) (x : X) (rest : List X) (s : S) (a : Result Bool E) (u : S) (z : Result Bool E) → xs ≡ x ∷ rest → IsEnd z → a ≡ z → W (events (f x)) s a u → W (all xs) s z u
  next_ends f all more xs x rest s a u z is ends end h =
      subst (λ es. W es s z u) (sym (ap all is ∙ more x rest)) (walked_stops (Visit pre post) (events (f x)) (all rest) s a u z ends end h)

-- the events of arguments, and of an extension's children
abbrev pub args_events : List (Box Expr Global) → List Event
args_events bs = all_events (trees_of bs)

abbrev pub nodes_events : List Expr → List Event
nodes_events es = all_events (children_of es)

pub drop_step : {X : Type 0} (xs : List X) (i : ℕ) (y : X) → i < length xs → y ≡ get_or xs i y → drop i xs ≡ y ∷ drop (i + 1) xs
drop_step [] i y h is = absurd (omega arith)
drop_step (x ∷ xs) zero y h is = ap (λ z. z ∷ xs) (sym is)
drop_step (x ∷ xs) (suc i) y h is = let step : suc (i + 1) ≡ suc i + 1 = omega arith in drop_step xs i y (omega arith) is ∙ ap (λ n. y ∷ drop n (x ∷ xs)) step

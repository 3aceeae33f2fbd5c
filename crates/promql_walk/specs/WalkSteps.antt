-- What a visitor may have become along the events of a walk (docs/reference/walks.md, "Walks").
use Rattle.std.specs.Prelude.{◌≡◌, ◌≢◌, ◌⊎◌, Bool, true, List, [], ◌∷◌, Result, Ok}
use Rattle.promql_ast.specs.Tree.{Tree}
use Rattle.promql_json.specs.Events.{Event, before, after}

-- One step for each of these, in order, up to the first whose result is not `Ok true`. The state was s and is t, and r is
-- that result, or `Ok true` where there is none.
abbrev pub WalksAlong : {X S E : Type 0} → (X → S → Result Bool E → S → Type 0) → List X → S → Result Bool E → S → Type 0
WalksAlong step [] s r t = (r ≡ Ok true) × (t ≡ s)
WalksAlong {X} {S} {E} step (x ∷ xs) s r t = ((r ≢ Ok true) × step x s r t) ⊎ ((u : S) × (step x s (Ok true) u × WalksAlong step xs u r t))

-- what a call that does nothing and goes on does, or what `gives` allows
abbrev pub IdlesOr : {S E : Type 0} → (S → Tree → Result Bool E → S → Type 0) → S → Tree → Result Bool E → S → Type 0
IdlesOr gives s e r t = ((r ≡ Ok true) × (t ≡ s)) ⊎ gives s e r t

-- the call at one event, by what the visitor's two calls may do
abbrev pub Visit : {S E : Type 0} → (S → Tree → Result Bool E → S → Type 0) → (S → Tree → Result Bool E → S → Type 0) → Event → S → Result Bool E → S → Type 0
Visit pre post (before e) s r t = pre s e r t
Visit pre post (after e) s r t = post s e r t

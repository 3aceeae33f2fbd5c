-- Which tokens lie within others.
use Rattle.std.specs.Prelude.{◌⊎◌, ℕ, ◌+◌, ◌≤◌, length}
use Rattle.promql_grammar.specs.Grammar.{yield}
use Rattle.promql_syntax.specs.FaultTokens.{Subexpression}
use Rattle.promql_places.specs.NodeParts.{PartTokens}
use Rattle.promql_places.specs.NodePlaces.{LieWithin}

-- an expression has tokens, which lie within these
abbrev pub LiesWithin : ℕ → ℕ → Subexpression → Type 0
LiesWithin k n sub = LieWithin k n (length (yield sub.1)) sub.0

-- the second of two expressions lies within the first, or begins after it
abbrev pub IsNested : Subexpression → Subexpression → Type 0
IsNested a b =
    LiesWithin a.0 (length (yield a.1) + a.0) b ⊎ (length (yield b.1) + b.0 ≤ a.0)

-- the second of two parts begins after the first, or has its tokens and ends after it or with it
abbrev pub Follows : PartTokens → PartTokens → Type 0
Follows p q = (q.1 + q.2 ≤ p.2) ⊎ ((q.2 ≤ p.2) × (p.1 + p.2 ≤ q.1 + q.2))

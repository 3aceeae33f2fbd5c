-- The first token that does not fit (docs/reference/grammar.md, "Places of errors").
use Rattle.std.specs.Prelude.{◌≡◌, List, [], ◌∷◌, ◌++◌}
use Rattle.promql_grammar.specs.Grammar.{Derivation, IsWellFormed, yield}
use Rattle.promql_grammar.specs.Symbols.{Symbol}

-- no well formed derivation begins with the first tokens and the next one, or has the first ones alone, where no other follows
abbrev pub NoneFits : List Symbol → List Symbol → Type 0
NoneFits front [] = (d : Derivation) → IsWellFormed d → ¬ (yield d ≡ front)
NoneFits front (x ∷ rest) = (d : Derivation) (others : List Symbol) → IsWellFormed d → ¬ (yield d ≡ front ++ x ∷ others)

-- the tokens from the first that does not fit
abbrev pub AreMisfits : List Symbol → List Symbol → Type 0
AreMisfits ts rest = (front : List Symbol) × (ts ≡ front ++ rest) × NoneFits front rest

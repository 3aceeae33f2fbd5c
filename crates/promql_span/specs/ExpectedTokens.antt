-- What may come after the first tokens of a text (docs/reference/grammar.md, "What is expected").
use Rattle.std.specs.Prelude.{◌≡◌, ℕ, Bool, true, nat_lt, List, ◌∷◌, ◌++◌, filter, Contains}
use Rattle.promql_text.specs.Texts.{Text}
use Rattle.promql_grammar.specs.Grammar.{Derivation, IsWellFormed, yield}
use Rattle.promql_grammar.specs.Symbols.{Symbol, symbol_of, token_kind}
use Rattle.promql_grammar.specs.declared.token_kinds.TokenKind.{TokenKind}
use Rattle.promql_span.specs.PlacedTokens.{placed_tokens, symbols_at}

-- the tokens that begin before this byte
abbrev pub symbols_before : Text → ℕ → List Symbol
symbols_before s at = symbols_at s (filter (λ x. nat_lt x.start at) (placed_tokens s))

-- each kind of token with which a well formed derivation goes on after these tokens is among the kinds, and the end where they are one
pub record AreExpected (front : List Symbol) (kinds : List TokenKind) (ends : Bool) : Type 0 where
  pub tokens : (id : ℕ) (d : Derivation) (text : Text) (others : List Symbol) → IsWellFormed d
      → yield d ≡ front ++ symbol_of (id, text) ∷ others → Contains kinds (token_kind id)
  pub end : (d : Derivation) → IsWellFormed d → yield d ≡ front → ends ≡ true

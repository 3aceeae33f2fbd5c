-- Taking the first token, if it is of one kind. Private: nothing rests on believing it.
use Rattle.std.specs.Prelude.{◌≡◌, ◌≢◌, List, [], ◌∷◌}
use Rattle.promql_text.specs.Texts.{Text}
use Rattle.promql_grammar.specs.declared.token_kinds.TokenKind.{TokenKind}
use Rattle.promql_grammar.specs.Symbols.{Symbol, punct, word, symbol}

-- the first token is of this kind, and the rest
pub record Eats (k : TokenKind) (ts rest : List Symbol) : Type 0 where
  pub text : Text
  pub first : ts ≡ symbol k text ∷ rest

-- the first token, if there is one, is of another kind
abbrev pub HasNo : TokenKind → List Symbol → Type 0
HasNo k [] = Unit {0}
HasNo k (punct other ∷ ts) = other ≢ k
HasNo k (word other text ∷ ts) = other ≢ k

-- A text with the tokens that are asked about. Private: nothing rests on believing it.
use Rattle.std.specs.Prelude.{◌≡◌, List, [], ◌∷◌, ◌++◌, Contains}
use Rattle.promql_text.specs.Texts.{Text}
use Rattle.promql_grammar.specs.Grammar.{Derivation, IsWellFormed, yield}
use Rattle.promql_grammar.specs.Symbols.{Symbol, punct, symbol, word}
use Rattle.promql_grammar.specs.declared.token_kinds.TokenKind.{TokenKind}
use Rattle.promql_span.specs.PlacedTokens.{placed_tokens, symbols_at}

-- all tokens of a text
abbrev pub symbols_of_text : Text → List Symbol
symbols_of_text s = symbols_at s (placed_tokens s)

-- tokens of the same kinds, whatever the texts of words
abbrev pub IsAlike : Symbol → Symbol → Type 0
IsAlike (punct k) (punct j) = k ≡ j
IsAlike (word k text) (word j other) = k ≡ j
IsAlike _ _ = ⊥

abbrev pub AreAlike : List Symbol → List Symbol → Type 0
AreAlike [] [] = Unit {0}
AreAlike (x ∷ xs) (y ∷ ys) = IsAlike x y × AreAlike xs ys
AreAlike _ _ = ⊥

-- a well formed derivation begins with these tokens and then one of this kind
abbrev pub GoesOn : List Symbol → TokenKind → Type 0
GoesOn front k = (d : Derivation) × (text : Text) × (others : List Symbol) × IsWellFormed d × (yield d ≡ front ++ symbol k text ∷ others)

-- a well formed derivation has these tokens and no more
abbrev pub IsQuery : List Symbol → Type 0
IsQuery front = (d : Derivation) × IsWellFormed d × (yield d ≡ front)

-- a kind is among these, if the tokens go on with it
abbrev pub IsListed : List Symbol → List TokenKind → TokenKind → Type 0
IsListed front kinds k = GoesOn front k → Contains kinds k

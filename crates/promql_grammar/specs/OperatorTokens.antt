-- Whether the first token is an operator. Private: nothing rests on believing it.
use Rattle.std.specs.Prelude.{◌≡◌, ℕ, ◌≤◌, ◌<◌, List, ◌∷◌, true, false}
use Rattle.promql_grammar.specs.declared.token_kinds.TokenKind.TheVariants as kind
use Rattle.promql_text.specs.Texts.{Text}
use Rattle.promql_grammar.specs.Symbols.{Symbol, word, is_plus_or_minus}
use Rattle.promql_grammar.specs.Grammar.{precedence}

-- no plus or minus
abbrev pub HasNoUnaryOperator : List Symbol → Type 0
HasNoUnaryOperator (word (kind.Operator op) text ∷ ts) = is_plus_or_minus op ≡ false
HasNoUnaryOperator ts = Unit {0}

-- a plus or minus, and the rest
pub record EatsUnaryOperator (op : ℕ) (ts rest : List Symbol) : Type 0 where
  pub text : Text
  pub is_unary : is_plus_or_minus op ≡ true
  pub first : ts ≡ word (kind.Operator op) text ∷ rest

-- no operator of at least precedence m
abbrev pub HasNoOperator : ℕ → List Symbol → Type 0
HasNoOperator m (word (kind.Operator op) text ∷ ts) = precedence op < m
HasNoOperator m ts = Unit {0}

-- this operator, of at least precedence m, and the rest
pub record EatsOperator (m op : ℕ) (ts rest : List Symbol) : Type 0 where
  pub text : Text
  pub least : m ≤ precedence op
  pub first : ts ≡ word (kind.Operator op) text ∷ rest

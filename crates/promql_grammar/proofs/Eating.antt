-- What `eat` returns, by the first token.
use Rattle.std.proofs.Common.{◌≡◌, ap, sym, ◌∙◌, subst, cond, Bool, true, false, List, [], ◌∷◌, drop}
use Rattle.std.specs.Prelude.{◌≢◌}
use Rattle.promql_text.specs.Texts.{Text}
use Rattle.promql_grammar.specs.declared.token_kinds.TokenKind.{TokenKind}
use Rattle.promql_grammar.specs.Symbols.{Symbol, punct, word, symbol, is_punct}
use Rattle.promql_grammar.specs.Eating.{Eats, HasNo}

-- the first token, and those after it
pub at_word : (ts us : List Symbol) (k j : TokenKind) (t : Text) → ts ≡ symbol k t ∷ drop 1 ts → k ≡ j → us ≡ drop 1 ts → ts ≡ symbol j t ∷ us
at_word ts us k j t front is passed = front ∙ ap (λ x. symbol x t ∷ drop 1 ts) is ∙ ap (λ r. symbol j t ∷ r) (sym passed)

other_token : (k j : TokenKind) (t : Text) (ts : List Symbol) (b : Bool) → j ≢ k → HasNo k (cond b (punct j) (word j t) ∷ ts)
other_token k j t ts true other = other
other_token k j t ts false other = other

-- the first token is of another kind, or there is none
pub another_kind : (k j : TokenKind) (t : Text) (ts rest : List Symbol) → ts ≡ symbol j t ∷ rest → j ≢ k → HasNo k ts
another_kind k j t ts rest first other = subst (HasNo k) (sym first) (other_token k j t rest (is_punct j) other)

pub no_token : (k : TokenKind) (ts : List Symbol) → ts ≡ [] → HasNo k ts
no_token k ts none = subst (HasNo k) (sym none) tt

-- the first token is of this kind, and the others are left
pub first_eaten : (k j : TokenKind) (t : Text) (ts us : List Symbol) → ts ≡ symbol j t ∷ drop 1 ts → j ≡ k → us ≡ drop 1 ts → Eats k ts us
first_eaten k j t ts us first same left = record { text = t; first = at_word ts us j k t first same left }

-- What a `TokenCursor` has left, and where it is in a text. Private: nothing rests on believing it.
use Rattle.std.specs.Prelude.{◌≡◌, ℕ, ◌^◌, ◌<◌, ◌-◌, List, [], ◌∷◌, ◌++◌, Option, Some, None, length, map, take}
use Rattle.promql_text.specs.Texts.{Text}
use Rattle.promql_token.specs.declared.lexeme.Lexeme.{Lexeme}
use Rattle.promql_grammar.specs.Symbols.{token_kind}
use Rattle.promql_grammar.specs.declared.token_kinds.TokenKind.{TokenKind}
use Rattle.promql_span.specs.PlacedTokens.{last_tokens, placed_tokens, span_of}
use Rattle.promql_span.specs.TokensLeft.{placed_left}
use Rattle.promql_span.specs.SpanSteps.{last_of}
use Rattle.promql_span.specs.declared.span.Span.{Span}
use Rattle.promql_places.specs.declared.token_cursor.TokenCursor.{TokenCursor}

abbrev pub with_first : Option Lexeme → List Lexeme → List Lexeme
with_first None xs = []
with_first (Some x) xs = x ∷ xs

abbrev pub lexemes_left : TokenCursor → List Lexeme
lexemes_left c = with_first c.first (placed_left c.rest)

abbrev pub lexeme_kind : Lexeme → TokenKind
lexeme_kind x = token_kind x.id

abbrev pub kinds_left : TokenCursor → List TokenKind
kinds_left c = map lexeme_kind (lexemes_left c)

-- where the first of these tokens begins, and where the last one ends
abbrev pub first_start : List Lexeme → ℕ
first_start [] = 0
first_start (x ∷ xs) = x.start

abbrev pub last_end : List Lexeme → ℕ
last_end [] = 0
last_end (x ∷ xs) = (span_of (last_of x xs)).end

-- it goes over the tokens of this text
pub record IsOver (s : Text) (c : TokenCursor) : Type 0 where
  pub before : List Lexeme
  pub all : placed_tokens s ≡ before ++ lexemes_left c
  pub ends : c.end ≡ last_end before
  pub fits : length s < 2 ^ 64

-- it went on to tokens of these kinds
pub record Moved (ks : List TokenKind) (old new : TokenCursor) : Type 0 where
  pub to : kinds_left new ≡ ks
  pub over : (s : Text) → IsOver s old → IsOver s new

-- the part with the first of so many last tokens, up to so many last ones
abbrev pub span_in : Text → ℕ × ℕ → Span
span_in s place = record {
  start = first_start (last_tokens place.0 (placed_tokens s));
  end = last_end (take (length (placed_tokens s) - place.1) (placed_tokens s));
}

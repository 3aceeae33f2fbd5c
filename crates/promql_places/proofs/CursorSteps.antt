-- A cursor that goes on by a token, and by several.
use Rattle.std.proofs.Common.{◌≡◌, ℕ, ◌+◌, ◌≤◌, List, [], ◌∷◌, ◌++◌, Option, Some, None, refl, sym, ap, ◌∙◌, subst, arith, append_assoc, drop, length, map, min}
use Rattle.std.specs.Iterator.{YieldsFirst}
use Rattle.promql_text.specs.Texts.{Text}
use Rattle.promql_token.specs.declared.lexeme.Lexeme.{Lexeme}
use Rattle.promql_span.specs.PlacedTokens.{placed_tokens, span_of}
use Rattle.promql_span.specs.TokensLeft.{placed_left}
use Rattle.promql_span.specs.SpanSteps.{last_of}
use Rattle.promql_span.specs.declared.placed.PlacedTokens.{PlacedTokens}
use Rattle.promql_span.proofs.OrderedTokens.{AreOrdered, ordered}
use Rattle.promql_places.specs.declared.token_cursor.TokenCursor.{TokenCursor}
use Rattle.promql_places.specs.CursorTokens.{IsOver, Moved, kinds_left, last_end, lexeme_kind, lexemes_left, with_first}

-- what comes after the first
pub next_first : (o : Option Lexeme) (p q : PlacedTokens) → YieldsFirst placed_left p o q → with_first o (placed_left q) ≡ placed_left p
next_first None p q h = sym h.0
next_first (Some x) p q h = sym h

last_joined : (x : Lexeme) (xs : List Lexeme) (y : Lexeme) → last_of x (xs ++ y ∷ []) ≡ y
last_joined x [] y = refl
last_joined x (z ∷ zs) y = last_joined z zs y

pub last_end_joined : (before : List Lexeme) (x : Lexeme) → last_end (before ++ x ∷ []) ≡ x.start + x.len
last_end_joined [] x = refl
last_end_joined (y ∷ ys) x = ap (λ z. (span_of z).end) (last_joined y ys x)

fits_among : (len at : ℕ) (before : List Lexeme) (x : Lexeme) (xs : List Lexeme) → AreOrdered len at (before ++ x ∷ xs) → x.start + x.len ≤ len
fits_among len at [] x xs h = h.2
fits_among len at (y ∷ ys) x xs h = fits_among len (y.start + y.len) ys x xs h.3

pub goes_over : (s : Text) (old new : TokenCursor) (x : Lexeme) (xs : List Lexeme) → lexemes_left old ≡ x ∷ xs → lexemes_left new ≡ xs → new.end ≡ min (x.start + x.len) 18446744073709551615 → IsOver s old → IsOver s new
goes_over s old new x xs first rest end over =
    let all : placed_tokens s ≡ over.before ++ x ∷ xs = over.all ∙ ap (λ l. over.before ++ l) first in
    let fits : x.start + x.len ≤ length s = fits_among (length s) 0 over.before x xs (subst (AreOrdered (length s) 0) all (ordered s)) in
    let small = over.fits in
    let exact : min (x.start + x.len) 18446744073709551615 ≡ x.start + x.len = omega arith in
    record {
      before = over.before ++ x ∷ [];
      all = all ∙ sym (append_assoc over.before (x ∷ []) xs) ∙ ap (λ l. (over.before ++ x ∷ []) ++ l) (sym rest);
      ends = end ∙ exact ∙ sym (last_end_joined over.before x);
      fits = small;
    }

pub moved_by_one : (old new : TokenCursor) (x : Lexeme) (xs : List Lexeme) → lexemes_left old ≡ x ∷ xs → lexemes_left new ≡ xs → new.end ≡ min (x.start + x.len) 18446744073709551615 → Moved (drop 1 (kinds_left old)) old new
moved_by_one old new x xs first rest end = record {
  to = ap (map lexeme_kind) rest ∙ sym (ap (λ l. drop 1 (map lexeme_kind l)) first);
  over = λ s over. goes_over s old new x xs first rest end over;
}

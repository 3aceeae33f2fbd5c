-- One token of a list by its index.
use Rattle.std.proofs.Common.{◌≡◌, ℕ, zero, suc, ◌+◌, ◌≤◌, List, [], ◌∷◌, drop, length, None, Some, ap, option_map, refl, subst, sym, ◌∙◌}
use Rattle.std.specs.Prelude.{IfSome, MatchOption, Option, slice_get}
use Rattle.std.proofs.lemmas.List.{drop-drop}
use Rattle.promql_text.specs.Texts.{Text}
use Rattle.promql_token.specs.declared.lexeme.Lexeme.{Lexeme}
use Rattle.promql_span.specs.PlacedTokens.{end_of, first_span, placed_tokens, span_of}
use Rattle.promql_span.proofs.OrderedTokens.{AreOrdered, ordered}

pub taken_first : (s : Text) (xs : List Lexeme) (n : ℕ) (x : Lexeme) → slice_get xs n ≡ Some x → span_of x ≡ first_span s (drop n xs)
taken_first s [] n x is = cc
taken_first s (y ∷ ys) zero x is = let same : x ≡ y = cc in cc
taken_first s (y ∷ ys) (suc n) x is = taken_first s ys n x is

pub none_taken : (s : Text) (xs : List Lexeme) (n : ℕ) → slice_get xs n ≡ None → end_of s ≡ first_span s (drop n xs)
none_taken s [] zero is = refl
none_taken s [] (suc n) is = refl
none_taken s (y ∷ ys) zero is = cc
none_taken s (y ∷ ys) (suc n) is = none_taken s ys n is

pub taken_fits : (len at : ℕ) (xs : List Lexeme) (n : ℕ) (x : Lexeme) → AreOrdered len at xs → slice_get xs n ≡ Some x → x.start + x.len ≤ len
taken_fits len at [] n x o is = cc
taken_fits len at (y ∷ ys) zero x o is = let same : y ≡ x = cc in subst (λ z. z.start + z.len ≤ len) same o.2
taken_fits len at (y ∷ ys) (suc n) x o is = taken_fits len (y.start + y.len) ys n x o.3 is

pub map_same : {X : Type 0} (o : Option X) → option_map (λ x. x) o ≡ o
map_same None = refl
map_same (Some x) = refl

-- a token of a text ends within it
pub placed_fits : (s : Text) (n : ℕ) (o : Option Lexeme) → o ≡ slice_get (placed_tokens s) n → IfSome o (λ x. x.start + x.len ≤ length s)
placed_fits s n None is = _
placed_fits s n (Some x) is = taken_fits (length s) 0 (placed_tokens s) n x (ordered s) (sym is)

get_drop : {X : Type 0} (xs : List X) (n : ℕ) → slice_get xs n ≡ slice_get (drop n xs) 0
get_drop [] zero = refl
get_drop [] (suc n) = refl
get_drop (x ∷ xs) zero = refl
get_drop (x ∷ xs) (suc n) = get_drop xs n

-- what an iterator gives that has come to this place of a list
pub next_of : {X : Type 0} (xs : List X) (n : ℕ) (r : Option X) (left after : List X) → left ≡ drop n xs
    → MatchOption r ((left ≡ []) × (after ≡ [])) (λ x. left ≡ x ∷ after) → (r ≡ slice_get xs n) × (after ≡ drop (n + 1) xs)
next_of xs n None left after is ends =
    (sym (get_drop xs n ∙ ap (λ l. slice_get l 0) (sym is ∙ ends.0)), ends.1 ∙ ap (drop 1) (sym ends.0) ∙ ap (drop 1) is ∙ drop-drop 1 n xs)
next_of xs n (Some x) left after is first =
    (sym (get_drop xs n ∙ ap (λ l. slice_get l 0) (sym is ∙ first)), ap (drop 1) (sym first) ∙ ap (drop 1) is ∙ drop-drop 1 n xs)

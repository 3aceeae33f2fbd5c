-- The tokens with an index in a range, by how many are left.
use Rattle.std.proofs.Common.{◌≡◌, ℕ, zero, suc, ◌+◌, ◌-◌, ◌<◌, ◌≤◌, ⊎_elim, List, [], ◌∷◌, ◌++◌, length, drop, take, Some, None, refl, sym, ap, ap₂, ◌∙◌, subst, arith}
use Rattle.std.specs.Prelude.{IfSome, Option}
use Rattle.std.proofs.lemmas.Bool.{cases_lt, cond_above, cond_below}
use Rattle.std.proofs.lemmas.List.{length-drop, take-append-drop}
use Rattle.promql_span.proofs.TokenRows.{AreInRow}
use Rattle.promql_text.specs.Texts.{Text}
use Rattle.promql_token.specs.declared.lexeme.Lexeme.{Lexeme}
use Rattle.promql_span.specs.PlacedTokens.{last_tokens, placed_tokens}
use Rattle.promql_span.specs.SpanSteps.{in_range}
use Rattle.promql_span.specs.TokenSpans.{span_over}
use Rattle.promql_span.specs.declared.span.Span.{Span}
use Rattle.promql_syntax.specs.Placing.{AreTokens}
use Rattle.promql_syntax.specs.declared.grammar.place.Place.{Place}
use Rattle.promql_syntax.specs.declared.grammar.place.Place.TheVariants.{Argument, Tokens}
use Rattle.promql_syntax.specs.declared.grammar.place.TokenRange.{TokenRange}

drop_none : (n : ℕ) → drop {A = Lexeme} n [] ≡ []
drop_none zero = refl
drop_none (suc n) = refl

take_none : (n : ℕ) → take {A = Lexeme} n [] ≡ []
take_none zero = refl
take_none (suc n) = refl

module _ (range : TokenRange) where
  -- past the end
  none_past : (n : ℕ) (xs : List Lexeme) → range.start ≤ n → range.end ≤ n → in_range range n xs ≡ []
  none_past n [] begun past = refl
  none_past n (x ∷ xs) begun past =
      sym (cond_above n range.start (in_range range (n + 1) xs) _ _ begun refl)
      ∙ sym (cond_above n range.end (x ∷ in_range range (n + 1) xs) _ _ past refl)
      ∙ none_past (n + 1) xs (omega arith) (omega arith)

  -- from the first one on
  taken : (n : ℕ) (xs : List Lexeme) → range.start ≤ n → in_range range n xs ≡ take (range.end - n) xs
  taken n [] begun = sym (take_none (range.end - n))
  taken n (x ∷ xs) begun =
      ⊎_elim
      (λ before. sym (cond_above n range.start (in_range range (n + 1) xs) _ _ begun refl)
      ∙ sym (cond_below n range.end (x ∷ in_range range (n + 1) xs) _ before)
      ∙ ap (λ l. x ∷ l) (taken (n + 1) xs (omega arith))
      ∙ ap (λ k. take k (x ∷ xs)) (next before))
      (λ past. none_past n (x ∷ xs) begun past ∙ sym (ap (λ k. take k (x ∷ xs)) (none_left past)))
      (cases_lt n range.end)
    where
      next : n < range.end → suc (range.end - (n + 1)) ≡ range.end - n
      next before = omega arith

      none_left : range.end ≤ n → range.end - n ≡ 0
      none_left past = omega arith

  -- before the first one
  pub from_first : (n : ℕ) (xs : List Lexeme) → n ≤ range.start → in_range range n xs ≡ take (range.end - range.start) (drop (range.start - n) xs)
  from_first n [] before = sym (ap (take (range.end - range.start)) (drop_none (range.start - n)) ∙ take_none (range.end - range.start))
  from_first n (x ∷ xs) before =
      ⊎_elim
      (λ under. sym (cond_below n range.start (in_range range (n + 1) xs) _ under)
      ∙ from_first (n + 1) xs (omega arith)
      ∙ ap (λ k. take (range.end - range.start) (drop k (x ∷ xs))) (next under))
      (λ begun. taken n (x ∷ xs) begun ∙ ap₂ (λ k j. take k (drop j (x ∷ xs))) (at_first begun) (none_over begun))
      (cases_lt n range.start)
    where
      next : n < range.start → suc (range.start - (n + 1)) ≡ range.start - n
      next under = omega arith

      at_first : range.start ≤ n → range.end - n ≡ range.end - range.start
      at_first begun = omega arith

      none_over : range.start ≤ n → 0 ≡ range.start - n
      none_over begun = omega arith

  pub begins_before : (n : ℕ) (x : Lexeme) (xs : List Lexeme) → n < range.start → in_range range n (x ∷ xs) ≡ in_range range (n + 1) xs
  begins_before n x xs before = sym (cond_below n range.start (in_range range (n + 1) xs) _ before)

  pub is_within : (n : ℕ) (x : Lexeme) (xs : List Lexeme) → range.start ≤ n → n < range.end → in_range range n (x ∷ xs) ≡ x ∷ in_range range (n + 1) xs
  is_within n x xs begun before =
      sym (cond_above n range.start (in_range range (n + 1) xs) _ _ begun refl) ∙ sym (cond_below n range.end (x ∷ in_range range (n + 1) xs) _ before)

  pub is_past : (n : ℕ) (x : Lexeme) (xs : List Lexeme) → range.start ≤ n → range.end ≤ n → in_range range n (x ∷ xs) ≡ in_range range (n + 1) xs
  is_past n x xs begun past =
      sym (cond_above n range.start (in_range range (n + 1) xs) _ _ begun refl) ∙ sym (cond_above n range.end (x ∷ in_range range (n + 1) xs) _ _ past refl)

take_some : (k : ℕ) (xs : List Lexeme) → 0 < k → 0 < length xs → 0 < length (take k xs)
take_some zero xs some any = absurd (omega arith)
take_some (suc k) [] some any = absurd (omega arith)
take_some (suc k) (x ∷ xs) some any = omega arith

-- they are in a row
pub range_row : (range : TokenRange) (xs : List Lexeme) → 0 < length (in_range range 0 xs) → AreInRow (in_range range 0 xs) xs
range_row range xs some =
    let rest = drop (range.start - 0) xs in
    let same = from_first range 0 xs (omega arith) in
    record {
      before = take (range.start - 0) xs;
      after = drop (range.end - range.start) rest;
      tokens = sym (ap (λ l. take (range.start - 0) xs ++ (l ++ drop (range.end - range.start) rest)) same ∙ ap (λ l. take (range.start - 0) xs ++ l) (take-append-drop (range.end - range.start) rest) ∙ take-append-drop (range.start - 0) xs);
      some = some;
    }

-- a span over the tokens in a range is that of the tokens that are left there
pub span_at : (s : Text) (left : Option (ℕ × ℕ)) (place : Place) (span : Span) → AreTokens (length (placed_tokens s)) left place
    → ((range : TokenRange) → place ≡ Tokens range → 0 < length (in_range range 0 (placed_tokens s)) → span ≡ span_over s (in_range range 0 (placed_tokens s)))
    → IfSome left (λ l. l.1 < l.0 → span ≡ span_over s (take (l.0 - l.1) (last_tokens l.0 (placed_tokens s))))
span_at s None place span are is = tt
span_at s (Some left) (Argument range index) span are is = absurd are
span_at s (Some left) (Tokens range) span are is = λ some.
    let xs = placed_tokens s in
    let first = are.0 in
    let last = are.1 in
    let start : range.start ≡ length xs - left.0 = omega arith in
    let many : range.end - range.start ≡ left.0 - left.1 = omega arith in
    let same : in_range range 0 xs ≡ take (left.0 - left.1) (last_tokens left.0 xs) =
    from_first range 0 xs (omega arith) ∙ ap₂ (λ k j. take k (drop j xs)) many (sub_zero range.start ∙ start) in
    let any : 0 < length (last_tokens left.0 xs) = omega (arith, length-drop (length xs - left.0) xs) in
    let filled : 0 < length (in_range range 0 xs) = subst (λ l. 0 < length l) (sym same) (take_some (left.0 - left.1) (last_tokens left.0 xs) (omega arith) any) in
    is range refl filled ∙ ap (span_over s) same
  where
    sub_zero : (n : ℕ) → n - 0 ≡ n
    sub_zero n = omega arith

pub same_range : (one other : TokenRange) → Tokens one ≡ Tokens other → one ≡ other
same_range one other same = cc

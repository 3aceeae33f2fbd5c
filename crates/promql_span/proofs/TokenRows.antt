-- Which spans are at tokens.
use Rattle.std.proofs.Common.{◌≡◌, ℕ, ◌+◌, ◌-◌, ◌<◌, ◌≤◌, Bool, true, false, List, [], ◌∷◌, ◌++◌, length, drop, take, filter, refl, sym, ap, ◌∙◌, subst, arith, length-drop, append-nil}
use Rattle.std.specs.Prelude.{nat_le, nat_lt}
use Rattle.std.proofs.lemmas.Bool.{and_from, and_left, and_right, cond-false, cond-true, leb-true, le-leb, le-ltb, ltb-false}
use Rattle.std.proofs.Math.Seq.{drop-append_seam, take-append_seam}
use Rattle.std.proofs.lemmas.List.{take-append-drop}
use Rattle.promql_text.specs.Texts.{Text}
use Rattle.promql_token.specs.declared.lexeme.Lexeme.{Lexeme}
use Rattle.promql_token.proofs.cursors.TestsAndCounts.{by_bool}
use Rattle.promql_span.specs.declared.span.Span.{Span}
use Rattle.promql_span.specs.PlacedTokens.{first_span, last_tokens, placed_tokens, span_of}
use Rattle.promql_span.specs.TokenSpans.{IsAtTokens, span_over, tokens_by}
use Rattle.promql_span.specs.SpanSteps.{begins_from, begins_in, last_of, nearest_tokens, or_else}
use Rattle.promql_span.proofs.Covered.{nearest_are, over_is}
use Rattle.promql_span.proofs.OrderedTokens.{AreOrdered, ordered, ordered_after}

-- some tokens in a row of others
pub record AreInRow (marked xs : List Lexeme) : Type 0 where
  pub before : List Lexeme
  pub after : List Lexeme
  pub tokens : xs ≡ before ++ (marked ++ after)
  pub some : 0 < length marked

-- ---- a row of tokens has a span

record Bounds (len : ℕ) (x : Lexeme) (xs : List Lexeme) : Type 0 where
  some : x.start < (span_of (last_of x xs)).end
  within : (span_of (last_of x xs)).end ≤ len

bounds : (len at : ℕ) (x : Lexeme) (xs after : List Lexeme) → AreOrdered len at (x ∷ (xs ++ after)) → Bounds len x xs
bounds len at x [] after o =
    let some : 0 < x.len = o.1 in
    let within : x.start + x.len ≤ len = o.2 in
    record { some = omega arith; within = within }
bounds len at x (y ∷ ys) after o =
    let some : 0 < x.len = o.1 in
    let next : x.start + x.len ≤ y.start = o.3.0 in
    let more = bounds len (x.start + x.len) y ys after o.3 in
    let more_some = more.some in
    record { some = omega arith; within = more.within }

row_at : (s : Text) (marked before after : List Lexeme) → placed_tokens s ≡ before ++ (marked ++ after) → 0 < length marked → IsAtTokens s (span_over s marked)
row_at s [] before after is some = absurd (omega arith)
row_at s (x ∷ xs) before after is some =
    let o = ordered_after (length s) 0 before (x ∷ (xs ++ after)) (subst (AreOrdered (length s) 0) is (ordered s)) in
    let b = bounds (length s) o.0 x xs after o.1 in
    let taken : take (length (x ∷ xs)) (drop (length before) (placed_tokens s)) ≡ x ∷ xs =
    ap (λ l. take (length (x ∷ xs)) (drop (length before) l)) is
    ∙ ap (take (length (x ∷ xs))) (drop-append_seam before (x ∷ (xs ++ after))) ∙ take-append_seam (x ∷ xs) after in (
      (length before, length (x ∷ xs), ap (span_over s) (sym taken)),
      subst (λ span. x.start < span.end) (sym (over_is s x xs)) b.some,
      subst (λ span. span.end ≤ length s) (sym (over_is s x xs)) b.within,
    )

pub at_row : (s : Text) (marked : List Lexeme) → AreInRow marked (placed_tokens s) → IsAtTokens s (span_over s marked)
at_row s marked row = row_at s marked row.before row.after row.tokens row.some

-- ---- one token

first_row : (xs ys : List Lexeme) (n : ℕ) → drop n xs ≡ ys → 0 < length ys → AreInRow (take 1 ys) xs
first_row xs [] n is some = absurd (omega arith)
first_row xs (y ∷ ys) n is some = record {
  before = take n xs;
  after = ys;
  tokens = sym (take-append-drop n xs) ∙ ap (λ l. take n xs ++ l) is;
  some = omega arith;
}

first_over : (s : Text) (ys : List Lexeme) → 0 < length ys → span_over s (take 1 ys) ≡ first_span s ys
first_over s [] some = absurd (omega arith)
first_over s (y ∷ ys) some = refl

-- the first of the last tokens
pub first_at : (s : Text) (n : ℕ) → 0 < n → 0 < length (placed_tokens s) → IsAtTokens s (first_span s (last_tokens n (placed_tokens s)))
first_at s n left some =
    let xs = placed_tokens s in
    let ys = last_tokens n xs in
    let any : 0 < length ys = omega (arith, length-drop (length xs - n) xs) in
    subst (IsAtTokens s) (first_over s ys any) (at_row s (take 1 ys) (first_row xs ys (length xs - n) refl any))

-- ---- the tokens in a part

module _ (len : ℕ) (part : Span) where
  is_in : (x : Lexeme) → nat_le part.start x.start ≡ true → nat_lt x.start part.end ≡ true → begins_in part x ≡ true
  is_in x from until = and_from _ _ from until

  -- none after it
  none_in : (at : ℕ) (xs : List Lexeme) → part.end ≤ at → AreOrdered len at xs → filter (begins_in part) xs ≡ []
  none_in at [] past o = refl
  none_in at (x ∷ xs) past o =
      let from : at ≤ x.start = o.0 in
      let out : nat_lt x.start part.end ≡ false = le-ltb x.start part.end (omega arith) in
      cond-false (begins_in part x) _ _ (and_right _ _ out) ∙ none_in (x.start + x.len) xs (omega arith) o.3

  -- after its start they come first
  first_in : (at : ℕ) (xs : List Lexeme) → part.start ≤ at → AreOrdered len at xs → (after : List Lexeme) × (xs ≡ filter (begins_in part) xs ++ after)
  first_in at [] past o = ([], refl)
  first_in at (x ∷ xs) past o =
      let from : at ≤ x.start = o.0 in
      by_bool (nat_lt x.start part.end)
      (λ until.
      let more = first_in (x.start + x.len) xs (omega arith) o.3 in
      let this : begins_in part x ≡ true = is_in x (le-leb part.start x.start (omega arith)) until in
      (more.0, ap (λ l. x ∷ l) more.1 ∙ ap (λ l. l ++ more.0) (sym (cond-true (begins_in part x) _ _ this))))
      (λ past_end.
      let end = ltb-false x.start part.end past_end in
      let none = cond-false (begins_in part x) _ _ (and_right _ _ past_end) ∙ none_in (x.start + x.len) xs (omega arith) o.3 in
      (x ∷ xs, ap (λ l. l ++ (x ∷ xs)) (sym none)))

  -- they are in a row
  all_in : (at : ℕ) (xs : List Lexeme) → AreOrdered len at xs → (before : List Lexeme) × (after : List Lexeme) × (xs ≡ before ++ (filter (begins_in part) xs ++ after))
  all_in at [] o = ([], [], refl)
  all_in at (x ∷ xs) o =
      by_bool (nat_le part.start x.start)
      (λ from. let start = leb-true part.start x.start from in let row = first_in x.start (x ∷ xs) start (omega arith, o.1, o.2, o.3) in ([], row.0, row.1))
      (λ out.
      let row = all_in (x.start + x.len) xs o.3 in
      let skip = cond-false (begins_in part x) (x ∷ filter (begins_in part) xs) (filter (begins_in part) xs) (and_left _ _ out) in
      (x ∷ row.0, row.1, ap (λ l. x ∷ l) row.2 ∙ ap (λ l. x ∷ (row.0 ++ (l ++ row.1))) (sym skip)))

-- ---- the first that passes a test

passing_row : (p : Lexeme → Bool) (xs ys : List Lexeme) (y : Lexeme) → filter p xs ≡ y ∷ ys → (before : List Lexeme) × (after : List Lexeme) × (xs ≡ before ++ y ∷ after)
passing_row p [] ys y is = cc
passing_row p (x ∷ xs) ys y is =
    by_bool (p x)
    (λ passes. let here = sym (cond-true (p x) _ _ passes) ∙ is in let same : x ≡ y = cc in ([], xs, ap (λ z. z ∷ xs) same))
    (λ fails. let row = passing_row p xs ys y (sym (cond-false (p x) _ _ fails) ∙ is) in (x ∷ row.0, row.1, ap (λ l. x ∷ l) row.2))

first_passing : (p : Lexeme → Bool) (xs ys : List Lexeme) → filter p xs ≡ ys → 0 < length ys → AreInRow (take 1 ys) xs
first_passing p xs [] is some = absurd (omega arith)
first_passing p xs (y ∷ ys) is some =
    let row = passing_row p xs ys y is in
    record { before = row.0; after = row.1; tokens = row.2; some = omega arith }

-- ---- all three

last_row : (xs : List Lexeme) → 0 < length xs → AreInRow (last_tokens 1 xs) xs
last_row xs some = record {
  before = take (length xs - 1) xs;
  after = [];
  tokens = sym (take-append-drop (length xs - 1) xs) ∙ ap (λ l. take (length xs - 1) xs ++ l) (sym (append-nil (last_tokens 1 xs)));
  some = omega (arith, length-drop (length xs - 1) xs);
}

choose : (xs ys zs : List Lexeme) → (0 < length ys → AreInRow ys xs) → AreInRow zs xs → AreInRow (or_else ys zs) xs
choose xs [] zs first second = second
choose xs (y ∷ ys) zs first second = first (omega arith)

take_some : (ys : List Lexeme) → 0 < length (take 1 ys) → 0 < length ys
take_some [] some = some
take_some (y ∷ ys) some = omega arith

chosen_row : (len at : ℕ) (part : Span) (xs : List Lexeme) → AreOrdered len at xs → 0 < length xs → AreInRow (nearest_tokens part xs) xs
chosen_row len at part xs o some =
    let row = all_in len part at xs o in
    let from = filter (begins_from part.start) xs in
    choose xs (filter (begins_in part) xs) (or_else (take 1 from) (last_tokens 1 xs))
    (λ any. record { before = row.0; after = row.1; tokens = row.2; some = any })
    (choose xs (take 1 from) (last_tokens 1 xs) (λ any. first_passing (begins_from part.start) xs from refl (take_some from any)) (last_row xs some))

pub chosen_at : (s : Text) (part : Span) → 0 < length (placed_tokens s) → IsAtTokens s (span_over s (tokens_by part (placed_tokens s)))
chosen_at s part some =
    at_row s _ (subst (λ xs. AreInRow xs (placed_tokens s)) (nearest_are part (placed_tokens s)) (chosen_row (length s) 0 part (placed_tokens s) (ordered s) some))

-- What the loops over tokens find is a span over tokens.
use Rattle.std.proofs.Common.{◌≡◌, ℕ, ◌<◌, ◌-◌, Bool, true, false, cond, List, [], ◌∷◌, ◌++◌, length, drop, take, filter, None, Some, refl, sym, ap, ◌∙◌, arith}
use Rattle.std.specs.Prelude.{◌==◌, ◌≤◌, nat_le, if◌then◌else◌}
use Rattle.std.proofs.lemmas.List.{length-drop, take_all}
use Rattle.promql_grammar.proofs.Listing.{some_zero}
use Rattle.promql_text.specs.Texts.{Text}
use Rattle.promql_token.specs.declared.lexeme.Lexeme.{Lexeme}
use Rattle.promql_span.specs.declared.span.Span.{Span}
use Rattle.promql_span.specs.PlacedTokens.{end_of, first_span, last_tokens, span_of}
use Rattle.promql_span.specs.SpanSteps.{begins_from, begins_in, cover, first_from, last_of, nearest_tokens, or_else}
use Rattle.promql_span.specs.TokenSpans.{span_over, tokens_by}

-- ---- the span of tokens ends with the last of them

abbrev ending_with : ℕ → Span → Span
ending_with n span = record { start = n; end = span.end }

last_first : (s : Text) (x : Lexeme) (xs : List Lexeme) → first_span s (drop (length xs) (x ∷ xs)) ≡ span_of (last_of x xs)
last_first s x [] = refl
last_first s x (y ∷ ys) = last_first s y ys

pub over_is : (s : Text) (x : Lexeme) (xs : List Lexeme) → span_over s (x ∷ xs) ≡ (let span : Span = record { start = x.start; end = (span_of (last_of x xs)).end } in span)
over_is s x xs =
    let one : length (x ∷ xs) - 1 ≡ length xs = omega arith in
    ap (ending_with x.start) (ap (λ n. first_span s (drop n (x ∷ xs))) one ∙ last_first s x xs)

-- ---- the tokens in a part

one_left : (ys : List Lexeme) → length ys ≤ 1 → take 1 ys ≡ ys
one_left ys few = take_all 1 ys few

first_or_last : (later ends : List Lexeme) → length ends ≤ 1 → or_else (take 1 later) ends ≡ take 1 (later ++ ends)
first_or_last [] ends few = sym (one_left ends few)
first_or_last (y ∷ ys) ends few = refl

some_or : (inside others same : List Lexeme) → others ≡ same → or_else inside others ≡ (if length inside == 0 then same else inside)
some_or [] others same is = is
some_or (x ∷ xs) others same is = sym (ap (λ (b : Bool). if b then same else x ∷ xs) (some_zero (length xs)))

pub nearest_are : (part : Span) (xs : List Lexeme) → nearest_tokens part xs ≡ tokens_by part xs
nearest_are part xs =
    some_or (filter (begins_in part) xs) _ _ (first_or_last (filter (begins_from part.start) xs) (last_tokens 1 xs) (omega (arith, length-drop (length xs - 1) xs)))

cover_more : (n : ℕ) (x : Lexeme) (xs : List Lexeme) → cover (Some (record { start = n; end = (span_of x).end })) xs ≡ Some (record { start = n; end = (span_of (last_of x xs)).end })
cover_more n x [] = refl
cover_more n x (y ∷ ys) = cover_more n y ys

some_covered : (s : Text) (ys zs : List Lexeme) (span : Span) → cover None ys ≡ Some span → span ≡ span_over s (or_else ys zs)
some_covered s [] zs span is = cc
some_covered s (y ∷ ys) zs span is = let more = cover_more y.start y ys in let both : Some (span_over s (y ∷ ys)) ≡ Some span = ap Some (over_is s y ys) ∙ sym more ∙ is in cc

none_covered : (ys zs : List Lexeme) → cover None ys ≡ None → or_else ys zs ≡ zs
none_covered [] zs is = refl
none_covered (y ∷ ys) zs is = let more = cover_more y.start y ys in cc

pub inside_is : (s : Text) (part : Span) (xs : List Lexeme) (span : Span) → cover None (filter (begins_in part) xs) ≡ Some span → span ≡ span_over s (nearest_tokens part xs)
inside_is s part xs span is = some_covered s (filter (begins_in part) xs) (or_else (take 1 (filter (begins_from part.start) xs)) (last_tokens 1 xs)) span is

-- the same of tokens that are given
pub cover_is : (s : Text) (ys : List Lexeme) (span : Span) → cover None ys ≡ Some span → 0 < length ys → span ≡ span_over s ys
cover_is s [] span is some = absurd (omega arith)
cover_is s (y ∷ ys) span is some = some_covered s (y ∷ ys) [] span is

pub cover_some : (ys : List Lexeme) (span : Span) → cover None ys ≡ Some span → 0 < length ys
cover_some [] span is = cc
cover_some (y ∷ ys) span is = omega arith

pub cover_none : (ys : List Lexeme) → cover None ys ≡ None → 0 < length ys → ⊥
cover_none [] is some = absurd (omega arith)
cover_none (y ∷ ys) is some = let more = cover_more y.start y ys in cc

-- ---- the first after it, or the last

abbrev last_span : Span → List Lexeme → Span
last_span d [] = d
last_span d (x ∷ xs) = last_span (span_of x) xs

abbrev pick : List Lexeme → Span → Span
pick [] d = d
pick (y ∷ ys) d = span_of y

from_is_pick : (at : ℕ) (d : Span) (xs : List Lexeme) → first_from at d xs ≡ pick (filter (begins_from at) xs) (last_span d xs)
from_is_pick at d [] = refl
from_is_pick at d (x ∷ xs) = go (nat_le at x.start) (from_is_pick at (span_of x) xs)
  where
    go : (b : Bool) → first_from at (span_of x) xs ≡ pick (filter (begins_from at) xs) (last_span (span_of x) xs)
        → cond b (span_of x) (first_from at (span_of x) xs) ≡ pick (cond b (x ∷ filter (begins_from at) xs) (filter (begins_from at) xs)) (last_span (span_of x) xs)
    go true more = refl
    go false more = more

pick_is_over : (s : Text) (ys zs : List Lexeme) (d : Span) → d ≡ span_over s zs → pick ys d ≡ span_over s (or_else (take 1 ys) zs)
pick_is_over s [] zs d is = is
pick_is_over s (y ∷ ys) zs d is = refl

last_one : (s : Text) (x : Lexeme) (xs : List Lexeme) → last_span (span_of x) xs ≡ span_over s (drop (length xs) (x ∷ xs))
last_one s x [] = refl
last_one s x (y ∷ ys) = last_one s y ys

last_is_over : (s : Text) (xs : List Lexeme) → last_span (end_of s) xs ≡ span_over s (last_tokens 1 xs)
last_is_over s [] = refl
last_is_over s (x ∷ xs) = let one : length xs ≡ length (x ∷ xs) - 1 = omega arith in last_one s x xs ∙ ap (λ n. span_over s (drop n (x ∷ xs))) one

pub outside_is : (s : Text) (part : Span) (xs : List Lexeme) → cover None (filter (begins_in part) xs) ≡ None → first_from part.start (end_of s) xs ≡ span_over s (nearest_tokens part xs)
outside_is s part xs none =
    let from = filter (begins_from part.start) xs in
    let other = or_else (take 1 from) (last_tokens 1 xs) in
    from_is_pick part.start (end_of s) xs
    ∙ pick_is_over s from (last_tokens 1 xs) (last_span (end_of s) xs) (last_is_over s xs)
    ∙ ap (span_over s) (sym (none_covered (filter (begins_in part) xs) other none))

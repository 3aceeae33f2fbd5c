-- From counts of tokens to places.
use Rattle.std.proofs.Common.{◌≡◌, Bool, true, false, ℕ, zero, suc, ◌+◌, ◌-◌, ◌<◌, ◌≤◌, List, [], ◌∷◌, ◌++◌, Result, Ok, Err, refl, sym, ap, ◌∙◌, arith, drop, length, length-drop, map, take}
use Rattle.std.specs.Prelude.{filter, if◌then◌else◌}
use Rattle.std.specs.List.{AllByRecursion}
use Rattle.promql_text.specs.Texts.{Text}
use Rattle.promql_token.specs.declared.fault.LexFault.{LexFault}
use Rattle.promql_token.specs.declared.lexeme.Lexeme.{Lexeme}
use Rattle.promql_token.specs.Cursor.{is_before_end}
use Rattle.promql_token.specs.Lexing as lexing
use Rattle.promql_token.specs.Lexing.{slice_texts, text_at}
use Rattle.promql_grammar.specs.Grammar.{Derivation, yield}
use Rattle.promql_grammar.specs.Results.{on_result}
use Rattle.promql_grammar.specs.Symbols.{is_punct, punct, word, symbol, symbol_of, token_kind}
use Rattle.promql_grammar.specs.declared.token_kinds.TokenKind.{TokenKind}
use Rattle.promql_syntax.specs.FaultTokens.{Subexpression}
use Rattle.promql_syntax.specs.ParseAnswers.{Derives}
use Rattle.promql_span.specs.PlacedTokens.{last_tokens, placed_tokens, span_of}
use Rattle.promql_span.specs.TokensPlaced.{TokensArePlaced}
use Rattle.promql_span.specs.SpanSteps.{last_of}
use Rattle.promql_span.specs.TokenSpans.{span_over}
use Rattle.promql_span.proofs.Covered.{over_is}
use Rattle.promql_span.specs.declared.span.Span.{Span}
use Rattle.promql_places.specs.CursorTokens.{first_start, last_end, lexeme_kind, span_in}
use Rattle.promql_places.specs.declared.parts.Part.{Part}
use Rattle.promql_places.specs.NodeParts.{PartTokens, parts, parts_of}
use Rattle.promql_places.specs.NodePlaces.{place_of, tokens_at}
use Rattle.promql_places.proofs.Lying.{LiesWithin}
use Rattle.promql_places.specs.PartSteps.{part_in}
use Rattle.promql_places.specs.Passing.{parts_in, place_in}
use Rattle.promql_places.specs.Skipping.{kind_of, kinds}
use Rattle.promql_places.proofs.LyingParts.{LiesBetween, parts_fit}
use Rattle.promql_places.proofs.PassedTrees.{counts}
use Rattle.promql_places.proofs.TakenParts.{spans}

-- ---- the tokens of a derivation of a text

kind_of_symbol : (k : TokenKind) (t : Text) → kind_of (symbol k t) ≡ k
kind_of_symbol k t = by (is_punct k)
  where
    by : (b : Bool) → kind_of (if b then punct k else word k t) ≡ k
    by true = refl
    by false = refl

kinds_of : (s : Text) (xs : List Lexeme) → kinds (map symbol_of (slice_texts s xs)) ≡ map lexeme_kind xs
kinds_of s [] = refl
kinds_of s (x ∷ xs) = λ i. kind_of_symbol (token_kind x.id) (text_at s x) i ∷ kinds_of s xs i

pub derived_kinds : (s : Text) (d : Derivation) → TokensArePlaced → Derives s d → kinds (yield d) ≡ map lexeme_kind (placed_tokens s)
derived_kinds s d placed derives = by (lexing.tokens s) refl derives.spells
  where
    by : (r : Result (List (ℕ × Text)) LexFault) → lexing.tokens s ≡ r → on_result (map symbol_of) (on_result (filter is_before_end) r) ≡ Ok (yield d) → kinds (yield d) ≡ map lexeme_kind (placed_tokens s)
    by (Ok ts) is spells =
        let same : map symbol_of (filter is_before_end ts) ≡ yield d = cc in
        sym (ap kinds same) ∙ ap (λ l. kinds (map symbol_of l)) (placed s ts is) ∙ kinds_of s (placed_tokens s)
    by (Err f) is spells = cc

-- ---- spans

last_joined : (zs : List Lexeme) (x : Lexeme) (ys : List Lexeme) → last_end (zs ++ x ∷ ys) ≡ (span_of (last_of x ys)).end
last_joined [] x ys = refl
last_joined (z ∷ zs) x ys = ap (λ w. (span_of w).end) (go z zs)
  where
    go : (z : Lexeme) (zs : List Lexeme) → last_of z (zs ++ x ∷ ys) ≡ last_of x ys
    go z [] = refl
    go z (w ∷ ws) = go w ws

take_none : (n : ℕ) → take {A = Lexeme} n [] ≡ []
take_none zero = refl
take_none (suc n) = refl

take_sum : (i j : ℕ) (xs : List Lexeme) → take (i + j) xs ≡ take i xs ++ take j (drop i xs)
take_sum zero j xs = let same : zero + j ≡ j = omega arith in ap (λ n. take n xs) same
take_sum (suc i) j [] = take_none (suc i + j) ∙ sym (take_none j)
take_sum (suc i) j (x ∷ xs) = let same : suc i + j ≡ suc (i + j) = omega arith in ap (λ n. take n (x ∷ xs)) same ∙ ap (λ l. x ∷ l) (take_sum i j xs)

span_by : (s : Text) (zs xs : List Lexeme) (n : ℕ) → 0 < n → 0 < length xs → (let span : Span = record { start = first_start xs; end = last_end (zs ++ take n xs) } in span) ≡ span_over s (take n xs)
span_by s zs [] n some any = absurd (omega arith)
span_by s zs (x ∷ xs) zero some any = absurd (omega arith)
span_by s zs (x ∷ xs) (suc n) some any = ap (λ e. let span : Span = record { start = x.start; end = e } in span) (last_joined zs x (take n xs)) ∙ sym (over_is s x (take n xs))

-- by counts of tokens, of which there is one at least
pub tokens_are : (s : Text) (count after : ℕ) → 0 < count → count + after ≤ length (placed_tokens s) → span_in s (count + after, after) ≡ span_over s (tokens_at s count after)
tokens_are s count after = by (placed_tokens s) count after
  where
    by : (all : List Lexeme) (count after : ℕ) → 0 < count → count + after ≤ length all
        → (let span : Span = record { start = first_start (last_tokens (count + after) all); end = last_end (take (length all - after) all) } in span) ≡ span_over s (take count (last_tokens (count + after) all))
    by all count after some begins =
        let i = length all - (count + after) in
        let whole : length all - after ≡ i + count = omega arith in
        let left = length-drop i all in
        ap (λ l. let span : Span = record { start = first_start (drop i all); end = last_end l } in span) (ap (λ n. take n all) whole ∙ take_sum i count all)
        ∙ span_by s (take i all) (drop i all) count some (omega arith)

pub places_are : (s : Text) (subs : List Subexpression) → AllByRecursion (LiesWithin 0 (length (placed_tokens s))) subs → map (place_in s) (counts subs) ≡ map (place_of s) subs
places_are s [] all = refl
places_are s (sub ∷ subs) all =
    let lies = all.0 in
    λ i. tokens_are s (length (yield sub.1)) sub.0 lies.0 lies.2 i ∷ places_are s subs all.1 i

-- from the first of its tokens through the last
abbrev part_at : Text → PartTokens → Part
part_at s p = record { kind = p.0; span = span_over s (tokens_at s p.1 p.2) }

parts_are : (s : Text) (sub : Subexpression) (ps : List PartTokens) → length (yield sub.1) + sub.0 ≤ length (placed_tokens s) → AllByRecursion (LiesBetween sub.0 (length (yield sub.1) + sub.0)) ps → map (part_in s) (spans ps) ≡ map (part_at s) ps
parts_are s sub [] fits all = refl
parts_are s sub (p ∷ ps) fits all =
    let lies = all.0 in
    let some = lies.0 in
    let begins = lies.2 in
    let here : span_in s (p.1 + p.2, p.2) ≡ span_over s (tokens_at s p.1 p.2) = tokens_are s p.1 p.2 some (omega arith) in
    λ i. record { kind = p.0; span = here i } ∷ parts_are s sub ps fits all.1 i

pub lists_are : (s : Text) (subs : List Subexpression) → AllByRecursion (LiesWithin 0 (length (placed_tokens s))) subs → map (parts_in s) (counts subs) ≡ map (parts_of s) subs
lists_are s [] all = refl
lists_are s (sub ∷ subs) all =
    let lies = all.0 in
    λ i. parts_are s sub (parts sub.0 sub.1) lies.2 ((parts_fit sub.1 sub.0).lie) i ∷ lists_are s subs all.1 i

-- The measures of the tokens of a text, token by token.
use Rattle.std.proofs.Common.{◌≡◌, ℕ, ◌+◌, ◌<◌, ◌≤◌, false, List, [], ◌∷◌, ◌++◌, length, drop, take, ap, ◌∙◌, arith, true≢false}
use Rattle.std.specs.Prelude.{MatchOption, None, Option, Some, sum}
use Rattle.std.specs.Option.{is_some}
use Rattle.std.proofs.Math.Seq.{take-append-add, take-append_seam}
use Rattle.std.proofs.lemmas.List.Sums.{sum_by_push}
use Rattle.std.proofs.lemmas.List.{length-map}
use Rattle.promql_text.specs.Texts.{Text}
use Rattle.promql_token.specs.Cursor.{tokens_up_to_fault}
use Rattle.promql_token.specs.Lexing.{text_at}
use Rattle.promql_span.specs.PlacedTokens.{first_span, placed_tokens}
use Rattle.promql_span.specs.declared.span.Span.{Span}
use Rattle.promql_span.specs.QueryLimits.{IsAtPassing, token_measures}
use Rattle.promql_span.proofs.OrderedTokens.{tokens_fit}
use Rattle.promql_span.proofs.PlacedTexts.{pieces_placed}

-- the token with which the sum is more than `most`, where the measures before it are these
pub passing_at : (s : Text) (most : ℕ) (before after : List ℕ) (n : ℕ) (place : Span) → token_measures s ≡ before ++ n ∷ after → sum before ≤ most → most < sum before + n
    → place ≡ first_span s (drop (length before) (placed_tokens s)) → IsAtPassing s most place
passing_at s most before after n place all fit passes is =
    let front : take (length before) (token_measures s) ≡ before = ap (take (length before)) all ∙ take-append_seam before (n ∷ after) in
    let through : take (length before + 1) (token_measures s) ≡ before ++ n ∷ [] = ap (take (length before + 1)) all ∙ take-append-add before (n ∷ after) 1 in
    let more : sum (before ++ n ∷ []) ≡ sum before + n = sum_by_push (λ k. k) before n in
    (length before, omega (arith, ap sum front, fit), omega (arith, ap sum through, more, passes), is)

-- where no token has passed it, the sum is no more than it may be
pub unmarked : {A : Type 0} (B : Span → Type 0) (passed : Option Span) → is_some passed ≡ false → MatchOption passed A B → A
unmarked B None none within = within
unmarked B (Some place) none past = absurd (true≢false none)

-- the tokens before the end are no more than the bytes
pub tokens_are_few : (s : Text) → length (tokens_up_to_fault s) ≤ length s
tokens_are_few s =
    let same : length (tokens_up_to_fault s) ≡ length (placed_tokens s) = ap length (pieces_placed s) ∙ length-map (placed_tokens s) (λ x. (x.id, text_at s x)) in
    omega (arith, same, tokens_fit s)

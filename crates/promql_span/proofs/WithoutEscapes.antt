-- A text without a backslash has no escape in it.
use Rattle.std.proofs.Common.{◌≡◌, ℕ, zero, suc, refl, ap, false, List, [], ◌∷◌, None, drop, take, ◌∙◌, ◌||◌, ◌&&◌}
use Rattle.std.specs.Prelude.{◌==◌, not, option_map, slice_get, slice_index}
use Rattle.std.specs.List.{cons_option, filter_map}
use Rattle.std.proofs.lemmas.Bool.{cond_both}
use Rattle.promql_text.specs.Texts.{Text, code}
use Rattle.promql_token.specs.Lexing.{text_at}
use Rattle.promql_token.specs.declared.ids.TheConstants.{T_STRING}
use Rattle.promql_token.specs.declared.lexeme.Lexeme.{Lexeme}
use Rattle.promql_span.specs.ByteEscapes.{byte_escape, escape_in}
use Rattle.promql_span.specs.PlacedTokens.{placed_tokens}
use Rattle.promql_span.specs.QueryMarks.{has}
use Rattle.promql_span.proofs.OperatorTokens.{or_left, or_right}
use Rattle.promql_span.proofs.WithoutMarks.{no_escape}

without_dropped : (n : ℕ) (s : Text) → has (code "\\") s ≡ false → has (code "\\") (drop n s) ≡ false
without_dropped zero s miss = miss
without_dropped (suc n) [] miss = miss
without_dropped (suc n) (b ∷ s) miss = without_dropped n s (or_right (b == code "\\") (has (code "\\") s) miss)

without_taken : (n : ℕ) (s : Text) → has (code "\\") s ≡ false → has (code "\\") (take n s) ≡ false
without_taken zero s miss = refl
without_taken (suc n) [] miss = miss
without_taken (suc n) (b ∷ s) miss =
    ap (λ a. a || has (code "\\") (take n s)) (or_left (b == code "\\") (has (code "\\") s) miss) ∙ without_taken n s (or_right (b == code "\\") (has (code "\\") s) miss)

none_in : (s : Text) (x : Lexeme) → has (code "\\") s ≡ false → escape_in s x ≡ None
none_in s x miss =
    cond_both (x.id == T_STRING && not (slice_index (text_at s x) 0 == code "`")) _ _ (λ o. o ≡ None)
    (λ _. ap (option_map _) (no_escape x.start (text_at s x) (without_taken x.len (drop x.start s) (without_dropped x.start s miss)))) (λ _. refl)

none_among : (s : Text) (xs : List Lexeme) → has (code "\\") s ≡ false → filter_map (escape_in s) xs ≡ []
none_among s [] miss = refl
none_among s (x ∷ xs) miss = ap (λ o. cons_option o (filter_map (escape_in s) xs)) (none_in s x miss) ∙ none_among s xs miss

pub no_byte_escape : (s : Text) → has (code "\\") s ≡ false → byte_escape s ≡ None
no_byte_escape s miss = ap (λ es. slice_get es 0) (none_among s (placed_tokens s) miss)

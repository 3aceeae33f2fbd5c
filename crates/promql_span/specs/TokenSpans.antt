-- Spans of several tokens (docs/reference/grammar.md, "Places of errors").
use Rattle.std.specs.Prelude.{◌≡◌, ℕ, ◌<◌, ◌≤◌, ◌==◌, ◌&&◌, nat_le, nat_lt, if◌then◌else◌, List, ◌++◌, drop, length, take, filter}
use Rattle.promql_text.specs.Texts.{Text}
use Rattle.promql_token.specs.declared.lexeme.Lexeme.{Lexeme}
use Rattle.promql_span.specs.declared.span.Span.{Span}
use Rattle.promql_span.specs.PlacedTokens.{first_span, last_tokens, placed_tokens}

-- from the first of these tokens through the last, or the end
abbrev pub span_over : Text → List Lexeme → Span
span_over s xs = record { start = (first_span s xs).start; end = (first_span s (last_tokens 1 xs)).end }

-- tokens in a row, at least one
abbrev pub IsAtTokens : Text → Span → Type 0
IsAtTokens s span =
    ((n k : ℕ) × (span ≡ span_over s (take k (drop n (placed_tokens s))))) × (span.start < span.end) × (span.end ≤ length s)

-- the tokens that begin in this part of a text, or the first after it, or else the last
abbrev pub tokens_by : Span → List Lexeme → List Lexeme
tokens_by part xs =
    let later = filter (λ x. nat_le part.start x.start) xs in
    let inside = filter (λ x. nat_le part.start x.start && nat_lt x.start part.end) xs in
    if length inside == 0 then take 1 (later ++ last_tokens 1 xs) else inside

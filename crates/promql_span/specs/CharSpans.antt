-- Spans of one character (docs/reference/grammar.md, "Places of errors").
use Rattle.std.specs.Prelude.{ℕ, ◌<◌, ◌≤◌}
use Rattle.std.specs.Str.{IsCharBoundary}
use Rattle.promql_text.specs.Texts.{Text}
use Rattle.promql_span.specs.declared.span.Span.{Span}

-- from a place between characters to the next one, with this byte between them
abbrev pub IsCharAt : Text → ℕ → Span → Type 0
IsCharAt s at span =
    IsCharBoundary s span.start × IsCharBoundary s span.end × (span.start ≤ at) × (at < span.end)
    × ((i : ℕ) → span.start < i → i < span.end → ¬ (IsCharBoundary s i))

-- The tokens of a text with their places (docs/reference/grammar.md, "Places of errors").
use Rattle.std.specs.Prelude.{◌≡◌, ℕ, ◌+◌, ◌-◌, ◌==◌, not, List, length, drop, filter, map, slice_get}
use Rattle.std.specs.Option.{option_map_or}
use Rattle.std.specs.Result.{ok_prefix}
use Rattle.promql_text.specs.Texts.{Text}
use Rattle.promql_token.specs.declared.ids.TheConstants.{T_EOF}
use Rattle.promql_token.specs.declared.lexeme.Lexeme.{Lexeme}
use Rattle.promql_token.specs.Lexing.{items, slice_texts}
use Rattle.promql_grammar.specs.Misfits.{AreMisfits}
use Rattle.promql_grammar.specs.Symbols.{Symbol, symbol_of}
use Rattle.promql_span.specs.declared.span.Span.{Span}

-- the tokens before the end, or before the lexical fault
abbrev pub placed_tokens : Text → List Lexeme
placed_tokens s = filter (λ x. not (x.id == T_EOF)) (ok_prefix (items s))

-- what the grammar sees of tokens
abbrev pub symbols_at : Text → List Lexeme → List Symbol
symbols_at s xs = map symbol_of (slice_texts s xs)

abbrev pub last_tokens : ℕ → List Lexeme → List Lexeme
last_tokens n xs = drop (length xs - n) xs

-- ---- spans

abbrev pub end_of : Text → Span
end_of s = record { start = length s; end = length s }

abbrev pub span_of : Lexeme → Span
span_of x = record { start = x.start; end = x.start + x.len }

-- the first of these tokens, or the end
abbrev pub first_span : Text → List Lexeme → Span
first_span s xs = option_map_or span_of (slice_get xs 0) (end_of s)

-- the first token that does not fit, or the end where one is missing
abbrev pub IsAtMisfit : Text → Span → Type 0
IsAtMisfit s span =
    (n : ℕ) × (let left = last_tokens n (placed_tokens s) in AreMisfits (symbols_at s (placed_tokens s)) (symbols_at s left) × (span ≡ first_span s left))

-- Escapes of bytes past ASCII, which Prometheus reads as bytes (docs/reference/texts.md, "Byte escapes").
use Rattle.std.specs.Prelude.{ℕ, ◌+◌, Bool, true, false, ◌&&◌, ◌||◌, ◌==◌, if◌then◌else◌, [], ◌∷◌, Option, Some, None, option_map, not, slice_get, slice_index}
use Rattle.std.specs.Char.{is_digit}
use Rattle.std.specs.List.{filter_map}
use Rattle.promql_text.specs.Texts.{Text, code}
use Rattle.promql_token.specs.Lexing.{text_at}
use Rattle.promql_token.specs.declared.ids.TheConstants.{T_STRING}
use Rattle.promql_token.specs.declared.lexeme.Lexeme.{Lexeme}
use Rattle.promql_span.specs.declared.span.Span.{Span}
use Rattle.promql_span.specs.PlacedTokens.{placed_tokens}

-- what comes after a backslash: `x` and two hexadecimal digits, the first 8 or more, or three octal digits, the first 2 or 3
abbrev pub is_byte_escape : Text → Bool
is_byte_escape (b ∷ c ∷ d ∷ z) =
    (b == 120 && (is_digit c 16 && not (is_digit c 8)) && is_digit d 16) || ((b == 50 || b == 51) && is_digit c 8 && is_digit d 8)
is_byte_escape _ = false

-- where the first one of a text is, from `at` on; the first byte may come after a backslash
abbrev pub first_escape : Bool → ℕ → Text → Option ℕ
first_escape escaped at [] = None
first_escape true at (b ∷ z) = first_escape false (at + 1) z
first_escape false at (b ∷ z) =
    if b == code "\\" && is_byte_escape z then Some at
    else first_escape (b == code "\\") (at + 1) z

-- the first one of a token, if that is a string and not between backticks
abbrev pub escape_in : Text → Lexeme → Option Span
escape_in s x =
    if x.id == T_STRING && not (slice_index (text_at s x) 0 == code "`")
    then option_map (λ at. record { start = at; end = at + 4 }) (first_escape false x.start (text_at s x))
    else None

-- "Byte escapes": the first one in the strings of a text
abbrev pub byte_escape : Text → Option Span
byte_escape s = slice_get (filter_map (escape_in s) (placed_tokens s)) 0

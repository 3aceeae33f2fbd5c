-- What the loops over tokens have found so far. Private: nothing rests on believing it.
use Rattle.std.specs.Prelude.{ℕ, ◌+◌, Bool, ◌&&◌, if◌then◌else◌, nat_le, nat_lt, List, [], ◌∷◌, filter, take, Option, None, Some}
use Rattle.promql_token.specs.declared.lexeme.Lexeme.{Lexeme}
use Rattle.promql_span.specs.declared.span.Span.{Span}
use Rattle.promql_span.specs.PlacedTokens.{last_tokens, span_of}
use Rattle.promql_syntax.specs.declared.grammar.place.TokenRange.{TokenRange}

-- a span that goes on through a later one, or the later one alone
abbrev pub through : Option Span → Span → Span
through None later = later
through (Some span) later = record { start = span.start; end = later.end }

-- the same through all of these tokens
abbrev pub cover : Option Span → List Lexeme → Option Span
cover found [] = found
cover found (x ∷ xs) = cover (Some (through found (span_of x))) xs

-- the last token of a list that begins with x
abbrev pub last_of : Lexeme → List Lexeme → Lexeme
last_of x [] = x
last_of x (y ∷ ys) = last_of y ys

-- the tokens in a part of a text
abbrev pub begins_from : ℕ → Lexeme → Bool
begins_from at x = nat_le at x.start

abbrev pub begins_in : Span → Lexeme → Bool
begins_in part x = begins_from part.start x && nat_lt x.start part.end

-- the first list, or the second where that is empty
abbrev pub or_else : List Lexeme → List Lexeme → List Lexeme
or_else [] ys = ys
or_else (x ∷ xs) ys = x ∷ xs

-- the tokens that begin in this part, or the first after it, or else the last
abbrev pub nearest_tokens : Span → List Lexeme → List Lexeme
nearest_tokens part xs = or_else (filter (begins_in part) xs) (or_else (take 1 (filter (begins_from part.start) xs)) (last_tokens 1 xs))

-- the first token from a byte on, or the last one, or what came before them
abbrev pub first_from : ℕ → Span → List Lexeme → Span
first_from at last [] = last
first_from at last (x ∷ xs) = if nat_le at x.start then span_of x else first_from at (span_of x) xs

-- those of these tokens with an index in the range, where the first has the index n
abbrev pub in_range : TokenRange → ℕ → List Lexeme → List Lexeme
in_range range n [] = []
in_range range n (x ∷ xs) =
    if nat_lt n range.start then in_range range (n + 1) xs
    else if nat_lt n range.end then x ∷ in_range range (n + 1) xs
    else in_range range (n + 1) xs

-- Quoted texts, in bytes of UTF-8: docs/reference/texts.md, "Strings".
use Rattle.std.specs.Prelude.{◌≡◌, ℕ, zero, suc, ◌+◌, ◌-◌, ◌*◌, Bool, if◌then◌else◌, ◌==◌, ◌||◌, nat_lt, nat_le, [], ◌∷◌, ◌++◌, length, Option, Some, None, IsSome, option_and_then, option_map, Result, Ok, Err}
use Rattle.std.specs.Char.{encode_utf8, digit_value}
use lib.Utf8.{scalar}
use Rattle.std.specs.List.{flat_map}
use Rattle.std.specs.Option.{option_map_or}
use Rattle.promql_text.specs.Texts.{Text, lookup}
use Rattle.promql_text.specs.declared.quote.QuoteError.{QuoteError}
use Rattle.promql_text.specs.declared.quote.QuoteError.TheVariants as errors

-- "Escaping": a byte, or a backslash and the byte beside it in this table
abbrev pub escaped_byte : ℕ → Text
escaped_byte b =
    option_map_or (λ k. 92 ∷ k ∷ []) (lookup (λ k b. b == k) ((92, 92) ∷ (34, 34) ∷ (10, 110) ∷ (13, 114) ∷ (9, 116) ∷ []) b) (b ∷ [])

-- "Escaping": the text with each of the five characters escaped
abbrev pub escaped_text : Text → Text
escaped_text = flat_map escaped_byte

-- the escape of a text between double quotes
abbrev pub quoted_text : Text → Text
quoted_text s = 34 ∷ (escaped_text s ++ 34 ∷ [])

-- "Quotes": the three bytes that may enclose a text
abbrev pub is_quote : ℕ → Bool
is_quote b = (b == 34 || b == 39) || b == 96

-- "Letter escapes": the character that one letter, or a backslash, is for after a backslash
abbrev pub letter : ℕ → Option ℕ
letter = lookup (λ k b. b == k) ((97, 7) ∷ (98, 8) ∷ (102, 12) ∷ (110, 10) ∷ (114, 13) ∷ (116, 9) ∷ (118, 11) ∷ (92, 92) ∷ [])

-- the number that n more digits write in a base, after those that wrote `start`
abbrev pub number : ℕ → ℕ → ℕ → Text → Option ℕ
number base zero start z = Some start
number base (suc n) start [] = None
number base (suc n) start (b ∷ z) =
    if nat_lt (digit_value b) base then number base n (start * base + digit_value b) z else None

-- "Number escapes": the character that n hexadecimal digits number, and the length of its escape
abbrev pub hexadecimal : ℕ → Text → Option (ℕ × ℕ)
hexadecimal n z = option_and_then (λ c. if scalar c then Some (c, n + 1) else None) (number 16 n 0 z)

-- the character that a digit and two more octal ones number, up to 255
abbrev pub octal : ℕ → Text → Option (ℕ × ℕ)
octal b z = option_and_then (λ c. if nat_le c 255 then Some (c, 3) else None) (number 8 2 (b - 48) z)

-- "Escapes": the character that what follows a backslash is for, and the length of what is for it
unfoldable pub escape : ℕ → Text → Option (ℕ × ℕ)
escape quote [] = None
escape quote (b ∷ z) =
    if b == quote then Some (b, 1)
    else (if b == 120 then hexadecimal 2 z
    else (if b == 117 then hexadecimal 4 z
    else (if b == 85 then hexadecimal 8 z
    else (if nat_le 48 b then (if nat_le b 55 then octal b z else option_map (λ c. (c, 1)) (letter b))
    else option_map (λ c. (c, 1)) (letter b)))))

-- "Spellings": what the byte b, with what follows it, is for, and the length of the spelling. Between backticks each
-- byte is for itself; else a line feed is for nothing, and a backslash begins an escape.
abbrev pub spelling : ℕ → ℕ → Text → Option (Text × ℕ)
spelling quote b z =
    if quote == 96 then Some (b ∷ [], 1)
    else (if b == 10 then None
    else (if b == 92 then option_map (λ e. (encode_utf8 e.0, e.1 + 1)) (escape quote z)
    else Some (b ∷ [], 1)))

-- what the spellings up to the closing quote, which ends the text, are for; `left` bytes of a spelling are still to be passed
abbrev pub inside : ℕ → ℕ → Text → Option Text
inside quote left [] = None
inside quote (suc left) (b ∷ z) = inside quote left z
inside quote zero (b ∷ z) =
    if b == quote then (if length z == 0 then Some [] else None)
    else option_and_then (λ s. option_map (λ more. s.0 ++ more) (inside quote (s.1 - 1) z)) (spelling quote b z)

-- "Quoted texts": a quote, spellings of characters, and the same quote
unfoldable pub unquoted_text : Text → Option Text
unquoted_text [] = None
unquoted_text (b ∷ z) = if is_quote b then inside b 0 z else None

-- the result is what was said: its value, or the rejection where there is none. Running out of memory may come in place of a value.
abbrev pub Unquotes : {X : Type 0} → (X → Text) → Result X QuoteError → Option Text → Type 0
Unquotes view (Ok x) said = said ≡ Some (view x)
Unquotes view (Err errors.Memory) said = IsSome said
Unquotes view (Err errors.InvalidSyntax) said = said ≡ None

-- How the code reads a quoted text from its start (private: nothing rests on believing it).
use Rattle.std.specs.Prelude.{◌≡◌, ℕ, ◌+◌, Bool, not, ◌||◌, ◌==◌, true, ◌++◌, drop, Option, Some, None, option_map, Result, Ok, Err}
use Rattle.std.specs.Char.{encode_utf8}
use Rattle.promql_text.specs.Quoting.{escape, inside, is_quote, number, unquoted_text}
use Rattle.promql_text.specs.Texts.{Text}
use Rattle.promql_text.specs.declared.quote.QuoteError.{QuoteError}
use Rattle.promql_text.specs.declared.quote.QuoteError.TheVariants as errors

-- a reader of digits, of an escape and of a spelling, which moves from the text `old` on to `new`

abbrev pub ReadsNumber : ℕ → ℕ → ℕ → Text → Option ℕ → Text → Type 0
ReadsNumber base n start old None new = number base n start old ≡ None
ReadsNumber base n start old (Some c) new = (number base n start old ≡ Some c) × (new ≡ drop n old)

-- a reader of the n digits by which the escape `said` ends
abbrev pub ReadsDigits : Option (ℕ × ℕ) → ℕ → Text → Option ℕ → Text → Type 0
ReadsDigits said n old None new = said ≡ None
ReadsDigits said n old (Some c) new = (said ≡ Some (c, n + 1)) × (new ≡ drop n old)

abbrev pub ReadsEscape : ℕ → Text → Option ℕ → Text → Type 0
ReadsEscape quote old None new = escape quote old ≡ None
ReadsEscape quote old (Some c) new = (len : ℕ) × (escape quote old ≡ Some (c, len)) × (new ≡ drop len old)

abbrev pub ReadsSpelling : ℕ → Text → Option ℕ → Text → Type 0
ReadsSpelling quote old None new = inside quote 0 old ≡ None
ReadsSpelling quote old (Some c) new = inside quote 0 old ≡ option_map (λ more. encode_utf8 c ++ more) (inside quote 0 new)

-- a reader of the quote that a quoted text begins with
abbrev pub ReadsQuote : Text → Option ℕ → Text → Type 0
ReadsQuote old None new = unquoted_text old ≡ None
ReadsQuote old (Some quote) new = (is_quote quote ≡ true) × (unquoted_text old ≡ inside quote 0 new)

-- between these quotes the byte is for itself, whatever is beside it
abbrev pub is_plain_byte : ℕ → ℕ → Bool
is_plain_byte quote b = not (b == quote || (b == 92 || b == 10))

-- the result is what was said, or an allocation failed
abbrev pub IsUnquotedUnlessMemory : {X : Type 0} → (X → Text) → Result X QuoteError → Option Text → Type 0
IsUnquotedUnlessMemory view (Ok x) said = said ≡ Some (view x)
IsUnquotedUnlessMemory view (Err errors.Memory) said = Unit {0}
IsUnquotedUnlessMemory view (Err errors.InvalidSyntax) said = said ≡ None

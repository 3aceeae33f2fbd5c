-- Which fault a text has: u is what comes before the fault's place, back to the trivia, and v what begins there
-- (docs/reference/tokens.md, "Faults").
use Rattle.std.specs.Prelude.{◌≡◌, ℕ, zero, suc, ◌<◌, Bool, true, false, ◌&&◌, ◌||◌, ◌==◌, List, [], ◌∷◌, ◌++◌, length, slice_index, codes}
use Rattle.std.specs.Char.{is_ascii_digit}
use Rattle.std.specs.List.{concat, list_all}
use Rattle.promql_token.specs.declared.class.Class.TheVariants as class
use Rattle.promql_token.specs.declared.fault.LexFaultKind.{LexFaultKind}
use Rattle.promql_token.specs.declared.fault.LexFaultKind.TheVariants.{UnclosedParen, AfterEqual, AfterBang, BangAtEnd, AfterDot, DotAtEnd, RightParen, RightBrace, RightBracket, Character, Numeral, Escape, EscapeAtEnd, OpenString, AfterBangInBraces, BraceInBraces, InBraces, EndInBraces, SecondColon, FirstColon, BracketInBrackets, InBrackets, EndInBrackets}
use Rattle.promql_token.specs.declared.state.Bracket.TheVariants as bracket
use Rattle.promql_token.specs.declared.state.Mode.{Mode}
use Rattle.promql_token.specs.declared.state.Mode.TheVariants as mode
use Rattle.promql_text.specs.Texts.{Text, code}
use Rattle.promql_token.specs.Begins.{IsBody, IsNumeral, has_escapes}
use Rattle.promql_token.specs.Classes.{is_in, is_letter}
use Rattle.promql_token.specs.Ids.{is_one_of}
use Rattle.promql_token.specs.Vocabulary.{holds_strings, is_escape, is_quote, is_spelling, next}

-- v begins with this byte, after the text w
abbrev pub Meets : Text → ℕ → Text → Text → Type 0
Meets w b u v = (u ≡ w) × ((next v == b) ≡ true)

-- v begins with a byte that is none of these, after the text w
abbrev pub Misses : Text → (ℕ → Bool) → Text → Text → Type 0
Misses w p u v = (u ≡ w) × (0 < length v) × (p (next v) ≡ false)

-- v begins with no numeral
abbrev pub NoNumeral : Text → Text → Type 0
NoNumeral u v = (u ≡ []) × ((id : ℕ) (w r : Text) → v ≡ w ++ r → IsNumeral id w r → ⊥)

-- a string through a backslash
abbrev pub IsEscaping : ℕ → Text → Type 0
IsEscaping quote u = (has_escapes quote ≡ true) × (ps : List Text) × (list_all (is_spelling quote) ps ≡ true) × (u ≡ quote ∷ (concat ps ++ code "\\" ∷ []))

-- with this many parentheses open
abbrev pub IsFault : LexFaultKind → Mode → ℕ → Text → Text → Type 0
IsFault UnclosedParen mode.Outside (suc depth) u v = (u ≡ []) × (v ≡ [])
IsFault AfterEqual mode.Outside depth u v = Meets (codes "=") (code "~") u v
IsFault AfterBang mode.Outside depth u v = Misses (codes "!") (λ b. b == code "=") u v
IsFault BangAtEnd m depth u v = (holds_strings m ≡ true) × (u ≡ codes "!") × (v ≡ [])
IsFault AfterDot mode.Outside depth u v = Misses (codes ".") is_ascii_digit u v
IsFault DotAtEnd mode.Outside depth u v = (u ≡ []) × (v ≡ codes ".")
IsFault RightParen mode.Outside zero u v = Meets [] (code ")") u v
IsFault RightBrace mode.Outside depth u v = Meets [] (code "}") u v
IsFault RightBracket mode.Outside depth u v = Meets [] (code "]") u v
IsFault Character mode.Outside depth u v = Misses [] (λ b. is_in class.Word b || (is_quote b || is_one_of (codes ".@,*/%+-^{[()}]=!<>") b)) u v
IsFault Numeral mode.Outside depth u v = ((is_ascii_digit (next v) || (next v == code "." && is_ascii_digit (slice_index v 1))) ≡ true) × NoNumeral u v
IsFault Numeral (mode.Brackets inside) depth u v = (is_ascii_digit (next v) ≡ true) × NoNumeral u v
IsFault Escape m depth u v = (holds_strings m ≡ true) × (quote : ℕ) × IsEscaping quote u × (0 < length v) × (is_escape quote (next v) ≡ false)
IsFault EscapeAtEnd m depth u v = (holds_strings m ≡ true) × (quote : ℕ) × IsEscaping quote u × (v ≡ [])
IsFault OpenString m depth u v = (holds_strings m ≡ true) × (u ≡ []) × (quote : ℕ) × (body : Text) × IsBody quote body × (v ≡ quote ∷ body)
IsFault AfterBangInBraces mode.Braces depth u v = Misses (codes "!") (λ b. b == code "=" || b == code "~") u v
IsFault BraceInBraces mode.Braces depth u v = Meets [] (code "{") u v
IsFault InBraces mode.Braces depth u v = Misses [] (λ b. is_letter b || (is_quote b || is_one_of (codes ",=!{}") b)) u v
IsFault EndInBraces mode.Braces depth u v = (u ≡ []) × (v ≡ [])
IsFault SecondColon (mode.Brackets bracket.Colon) depth u v = Meets [] (code ":") u v
IsFault FirstColon (mode.Brackets bracket.Nothing) depth u v = Meets [] (code ":") u v
IsFault BracketInBrackets (mode.Brackets inside) depth u v = Meets [] (code "[") u v
IsFault InBrackets (mode.Brackets inside) depth u v = Misses [] (λ b. is_ascii_digit b || is_one_of (codes ":[]") b) u v
IsFault EndInBrackets (mode.Brackets inside) depth u v = (u ≡ []) × (v ≡ [])
IsFault kind m depth u v = ⊥

-- What a text begins with: a trivia, a token or a fault (docs/reference/tokens.md, "Outside", "In braces", "In brackets").
use Rattle.std.specs.Prelude.{ℕ, zero, suc, ◌+◌, ◌-◌, Bool, true, false, not, ◌&&◌, ◌||◌, if◌then◌else◌, ◌==◌, [], ◌∷◌, length, take, drop, slice_index, Result, Ok, Err}
use Rattle.std.specs.Char.{is_ascii_digit, is_ascii_whitespace}
use Rattle.promql_token.specs.declared.class.Class.{Class}
use Rattle.promql_token.specs.declared.class.Class.TheVariants as class
use Rattle.promql_token.specs.declared.ids.TheConstants.{T_ADD, T_AT, T_COLON, T_COMMA, T_DIV, T_DURATION, T_EOF, T_EQL, T_EQLC, T_EQL_REGEX, T_GTE, T_GTR, T_LEFT_BRACE, T_LEFT_BRACKET, T_LEFT_PAREN, T_LSS, T_LTE, T_MOD, T_MUL, T_NEQ, T_NEQ_REGEX, T_NUMBER, T_POW, T_RIGHT_BRACE, T_RIGHT_BRACKET, T_RIGHT_PAREN, T_STRING, T_SUB}
use Rattle.promql_token.specs.declared.fault.LexFaultKind.{LexFaultKind}
use Rattle.promql_token.specs.declared.fault.LexFaultKind.TheVariants.{UnclosedParen, AfterEqual, AfterBang, BangAtEnd, AfterDot, DotAtEnd, RightParen, RightBrace, RightBracket, Character, Numeral, Escape, EscapeAtEnd, OpenString, AfterBangInBraces, BraceInBraces, InBraces, EndInBraces, SecondColon, FirstColon, BracketInBrackets, InBrackets, EndInBrackets}
use Rattle.promql_token.specs.declared.state.Bracket.{Bracket}
use Rattle.promql_token.specs.declared.state.Bracket.TheVariants as bracket
use Rattle.promql_token.specs.declared.state.Mode.{Mode}
use Rattle.promql_token.specs.declared.state.Mode.TheVariants as mode
use Rattle.promql_token.specs.declared.state.State.{State}
use Rattle.promql_text.specs.Texts.{Text, code}
use Rattle.promql_token.specs.Classes.{is_letter, end_of_run}
pub use Rattle.promql_token.specs.Vocabulary.{braces_id, is_escape, is_fill, is_line_end, is_quote, is_unit, name_id, opens, word_id}

-- ---- trivia

-- the length of the longest run of white space and comments; a comment goes through the first line end
abbrev pub trivia_from : Bool → Text → ℕ
trivia_from in_comment [] = 0
trivia_from true (b ∷ z) = suc (trivia_from (not (is_line_end b)) z)
trivia_from false (b ∷ z) = if b == code "#" then suc (trivia_from true z) else (if is_ascii_whitespace b then suc (trivia_from false z) else 0)

-- in brackets there are no comments
abbrev pub trivia_in : Mode → Text → ℕ
trivia_in mode.Outside z = trivia_from false z
trivia_in mode.Braces z = trivia_from false z
trivia_in (mode.Brackets inside) z = end_of_run class.White z 0

unfoldable pub trivia_len : Mode → Text → ℕ
trivia_len = trivia_in

-- ---- pieces: a token's id and length, or a fault and how far from the front it is

abbrev pub Scanned : Type 0
Scanned = Result (ℕ × ℕ) (LexFaultKind × ℕ)

-- ---- words

unfoldable pub word : Text → Scanned
word z = let len = end_of_run class.Word z 0 in Ok (word_id (take len z) (drop len z), len)

unfoldable pub word_in_braces : Text → Scanned
word_in_braces z = let len = end_of_run class.Name z 0 in Ok (braces_id (take len z) (drop len z), len)

-- ---- numerals

abbrev pub begins_numeral : Text → Bool
begins_numeral z = is_ascii_digit (slice_index z 0) || (slice_index z 0 == code "." && is_ascii_digit (slice_index z 1))

abbrev pub is_hex : Text → Bool
is_hex z = slice_index z 0 == code "0" && (slice_index z 1 == 120 || slice_index z 1 == 88)

-- the class of a numeral's digits
abbrev pub digits : Text → Class
digits z = if is_hex z then class.HexDigit else class.Digit

abbrev pub past_whole : Text → ℕ
past_whole z = end_of_run (digits z) z (if is_hex z then 2 else 0)

abbrev pub past_point : Class → Text → ℕ → ℕ
past_point c z at = if slice_index z at == code "." then end_of_run c z (at + 1) else at

abbrev pub past_sign : Text → ℕ → ℕ
past_sign z at = if slice_index z at == code "+" || slice_index z at == code "-" then at + 1 else at

abbrev pub past_exponent : Text → ℕ → ℕ
past_exponent z at = if slice_index z at == 101 || slice_index z at == 69 then end_of_run class.Digit z (past_sign z (at + 1)) else at

-- where the number that a numeral begins with ends
unfoldable pub number_end : Text → ℕ
number_end z = past_exponent z (past_point (digits z) z (past_whole z))

-- the length of a unit and of the `s` that may follow it, or 0
abbrev pub unit_len : Bool → Text → ℕ
unit_len first z = if is_unit first (slice_index z 0) then (if slice_index z 1 == 115 then 2 else 1) else 0

-- the length of digits and a unit, or 0
abbrev pub part_len : Text → ℕ
part_len z =
    let count = end_of_run class.Digit z 0 in
    let unit = unit_len false (drop count z) in
    if count == 0 || unit == 0 then 0 else count + unit

-- whether a text is such parts to its end; `left` bytes of one are still to be passed
abbrev pub parts_from : ℕ → Text → Bool
parts_from left [] = true
parts_from (suc left) (b ∷ z) = parts_from left z
parts_from zero (b ∷ z) = let len = part_len (b ∷ z) in if len == 0 then false else parts_from (len - 1) z

-- whether a text is what follows a duration's first number: a unit, then parts
unfoldable pub units : Text → Bool
units z = let len = unit_len true z in if len == 0 then false else parts_from 0 (drop len z)

-- a number is alone; letters, digits and `_` after it are all units and parts, or all is a fault
unfoldable pub numeral : Text → Scanned
numeral z =
    let end = number_end z in
    let run = end_of_run class.Name z end in
    if run == end && not (slice_index z end == code ".") then Ok (T_NUMBER, end)
    else (if units (take (run - end) (drop end z)) then Ok (T_DURATION, run) else Err (Numeral, 0))

-- ---- strings

-- through the first own quote that no backslash takes; the text begins at `at` of the string
abbrev pub string_from : ℕ → Bool → ℕ → Text → Scanned
string_from quote true at [] = Err (EscapeAtEnd, at)
string_from quote false at [] = Err (OpenString, 0)
string_from quote true at (b ∷ z) = if is_escape quote b then string_from quote false (at + 1) z else Err (Escape, at)
string_from quote false at (b ∷ z) =
    if b == quote then Ok (T_STRING, at + 1) else string_from quote (b == code "\\" && not (quote == code "`")) (at + 1) z

unfoldable pub string : Text → Scanned
string z = string_from (slice_index z 0) false 1 (drop 1 z)

-- ---- outside, where punctuators of two bytes come before those of one

-- `=`, by the byte after it
abbrev pub equal_token : ℕ → Scanned
equal_token next = if next == code "=" then Ok (T_EQLC, 2) else (if next == code "~" then Err (AfterEqual, 1) else Ok (T_EQL, 1))

-- `short` alone, or `long` with a `=` after it
abbrev pub or_equal : ℕ → ℕ → ℕ → Scanned
or_equal next long short = if next == code "=" then Ok (long, 2) else Ok (short, 1)

abbrev pub bang_token : Text → Scanned
bang_token z = if length z == 1 then Err (BangAtEnd, 1) else (if slice_index z 1 == code "=" then Ok (T_NEQ, 2) else Err (AfterBang, 1))

abbrev pub dot_token : Text → Scanned
dot_token z = if length z == 1 then Err (DotAtEnd, 0) else Err (AfterDot, 1)

-- the punctuators of one byte; `)` needs an open parenthesis
abbrev pub single : ℕ → ℕ → Scanned
single depth b =
    if b == code "@" then Ok (T_AT, 1)
    else (if b == code "," then Ok (T_COMMA, 1)
    else (if b == code "*" then Ok (T_MUL, 1)
    else (if b == code "/" then Ok (T_DIV, 1)
    else (if b == code "%" then Ok (T_MOD, 1)
    else (if b == code "+" then Ok (T_ADD, 1)
    else (if b == code "-" then Ok (T_SUB, 1)
    else (if b == code "^" then Ok (T_POW, 1)
    else (if b == code "{" then Ok (T_LEFT_BRACE, 1)
    else (if b == code "[" then Ok (T_LEFT_BRACKET, 1)
    else (if b == code "(" then Ok (T_LEFT_PAREN, 1)
    else (if b == code ")" then (if depth == 0 then Err (RightParen, 0) else Ok (T_RIGHT_PAREN, 1))
    else (if b == code "}" then Err (RightBrace, 0)
    else (if b == code "]" then Err (RightBracket, 0)
    else Err (Character, 0))))))))))))))

unfoldable pub punctuator : ℕ → Text → Scanned
punctuator depth z =
    let b = slice_index z 0 in
    let next = slice_index z 1 in
    if b == code "." then dot_token z
    else (if b == code "=" then equal_token next
    else (if b == code "<" then or_equal next T_LTE T_LSS
    else (if b == code ">" then or_equal next T_GTE T_GTR
    else (if b == code "!" then bang_token z
    else single depth b))))

unfoldable pub outside : ℕ → Text → Scanned
outside depth z =
    let b = slice_index z 0 in
    if begins_numeral z then numeral z
    else (if is_letter b || b == code ":" then word z
    else (if is_quote b then string z else punctuator depth z))

-- ---- in braces

abbrev pub bang_in_braces : Text → Scanned
bang_in_braces z =
    if length z == 1 then Err (BangAtEnd, 1)
    else (if slice_index z 1 == code "~" then Ok (T_NEQ_REGEX, 2)
    else (if slice_index z 1 == code "=" then Ok (T_NEQ, 2)
    else Err (AfterBangInBraces, 1)))

unfoldable pub in_braces : Text → Scanned
in_braces z =
    let b = slice_index z 0 in
    if b == code "," then Ok (T_COMMA, 1)
    else (if b == code "=" then (if slice_index z 1 == code "~" then Ok (T_EQL_REGEX, 2) else Ok (T_EQL, 1))
    else (if b == code "!" then bang_in_braces z
    else (if b == code "{" then Err (BraceInBraces, 0)
    else (if b == code "}" then Ok (T_RIGHT_BRACE, 1)
    else (if is_letter b then word_in_braces z
    else (if is_quote b then string z else Err (InBraces, 0)))))))

-- ---- in brackets

-- one colon, and none directly after the bracket
abbrev pub colon_token : Bracket → Scanned
colon_token bracket.Nothing = Err (FirstColon, 0)
colon_token bracket.Something = Ok (T_COLON, 1)
colon_token bracket.Colon = Err (SecondColon, 0)

unfoldable pub in_brackets : Bracket → Text → Scanned
in_brackets inside z =
    let b = slice_index z 0 in
    if b == code ":" then colon_token inside
    else (if b == code "]" then Ok (T_RIGHT_BRACKET, 1)
    else (if b == code "[" then Err (BracketInBrackets, 0)
    else (if is_ascii_digit b then numeral z else Err (InBrackets, 0))))

-- ---- a place with no trivia

-- at the end of the text each parenthesis, brace and bracket is closed
abbrev pub end_in : Mode → ℕ → Scanned
end_in mode.Outside depth = if depth == 0 then Ok (T_EOF, 0) else Err (UnclosedParen, 0)
end_in mode.Braces depth = Err (EndInBraces, 0)
end_in (mode.Brackets inside) depth = Err (EndInBrackets, 0)

abbrev pub scan_in_mode : Mode → ℕ → Text → Scanned
scan_in_mode mode.Outside depth z = outside depth z
scan_in_mode mode.Braces depth z = in_braces z
scan_in_mode (mode.Brackets inside) depth z = in_brackets inside z

unfoldable pub scan_token : State → Text → Scanned
scan_token state [] = end_in state.mode state.depth
scan_token state (b ∷ z) = scan_in_mode state.mode state.depth (b ∷ z)

-- ---- how a place's state follows from what is before it

-- something follows a bracket
abbrev pub mode_after_something : Mode → Mode
mode_after_something (mode.Brackets bracket.Nothing) = mode.Brackets bracket.Something
mode_after_something m = m

-- after a trivia of this length
unfoldable pub after_trivia : ℕ → State → State
after_trivia trivia state = if trivia == 0 then state else record state { mode = mode_after_something state.mode }

-- after a colon
abbrev pub mode_after_colon : Mode → Mode
mode_after_colon (mode.Brackets inside) = mode.Brackets bracket.Colon
mode_after_colon m = m

-- the mode after a token
abbrev pub mode_after : Mode → ℕ → Mode
mode_after m id =
    if id == T_LEFT_BRACE then mode.Braces
    else (if id == T_LEFT_BRACKET then mode.Brackets bracket.Nothing
    else (if id == T_RIGHT_BRACE || id == T_RIGHT_BRACKET then mode.Outside
    else (if id == T_COLON then mode_after_colon m
    else mode_after_something m)))

abbrev pub depth_after : ℕ → ℕ → ℕ
depth_after depth id = if id == T_LEFT_PAREN then depth + 1 else (if id == T_RIGHT_PAREN then depth - 1 else depth)

-- the state after a token
unfoldable pub after : State → ℕ → State
after state id = record { depth = depth_after state.depth id; mode = mode_after state.mode id }

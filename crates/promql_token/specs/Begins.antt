-- Which token w may begin at a place, before the text r (docs/reference/tokens.md, "Outside", "In braces",
-- "In brackets").
use Rattle.std.specs.Prelude.{◌≡◌, ◌⊎◌, ℕ, zero, suc, ◌<◌, Bool, true, false, not, ◌&&◌, ◌||◌, ◌==◌, List, [], ◌∷◌, ◌++◌, length, slice_index, codes}
use Rattle.std.specs.Char.{is_ascii_digit}
use Rattle.std.specs.List.{concat, list_all, list_any}
use Rattle.promql_token.specs.declared.class.Class.{Class}
use Rattle.promql_token.specs.declared.class.Class.TheVariants as class
use Rattle.promql_token.specs.declared.ids.TheConstants.{T_ADD, T_AT, T_COLON, T_COMMA, T_DIV, T_DURATION, T_EQL, T_EQLC, T_EQL_REGEX, T_GTE, T_GTR, T_LEFT_BRACE, T_LEFT_BRACKET, T_LEFT_PAREN, T_LSS, T_LTE, T_MOD, T_MUL, T_NEQ, T_NEQ_REGEX, T_NUMBER, T_POW, T_RIGHT_BRACE, T_RIGHT_BRACKET, T_RIGHT_PAREN, T_STRING, T_SUB}
use Rattle.promql_token.specs.declared.state.Bracket.TheVariants as bracket
use Rattle.promql_token.specs.declared.state.Mode.{Mode}
use Rattle.promql_token.specs.declared.state.Mode.TheVariants as mode
use Rattle.promql_text.specs.Texts.{Text, code}
use Rattle.promql_token.specs.Classes.{is_in, is_label}
use Rattle.promql_token.specs.Vocabulary.{braces_id, is_exponent, is_part, is_sign, is_spelling, is_unit, is_word, next, parts_text, word_id}

-- ---- punctuators

-- each punctuator's text and id, and the bytes that may not follow it
abbrev pub punctuators_outside : List (Text × ℕ × Text)
punctuators_outside =
    (codes "@", T_AT, []) ∷ (codes ",", T_COMMA, []) ∷ (codes "*", T_MUL, []) ∷ (codes "/", T_DIV, []) ∷ (codes "%", T_MOD, []) ∷ (codes "+", T_ADD, []) ∷ (codes "-", T_SUB, [])
    ∷ (codes "^", T_POW, []) ∷ (codes "{", T_LEFT_BRACE, []) ∷ (codes "[", T_LEFT_BRACKET, []) ∷ (codes "(", T_LEFT_PAREN, []) ∷ (codes "=", T_EQL, codes "=~") ∷ (codes "==", T_EQLC, [])
    ∷ (codes "!=", T_NEQ, []) ∷ (codes "<", T_LSS, codes "=") ∷ (codes "<=", T_LTE, []) ∷ (codes ">", T_GTR, codes "=") ∷ (codes ">=", T_GTE, []) ∷ []

-- the punctuators of a mode, with this many parentheses open
abbrev pub punctuators : Mode → ℕ → List (Text × ℕ × Text)
punctuators mode.Outside zero = punctuators_outside
punctuators mode.Outside (suc depth) = (codes ")", T_RIGHT_PAREN, []) ∷ punctuators_outside
punctuators mode.Braces depth =
    (codes ",", T_COMMA, []) ∷ (codes "=", T_EQL, codes "~") ∷ (codes "!=", T_NEQ, []) ∷ (codes "=~", T_EQL_REGEX, []) ∷ (codes "!~", T_NEQ_REGEX, []) ∷ (codes "}", T_RIGHT_BRACE, []) ∷ []
punctuators (mode.Brackets bracket.Something) depth = (codes "]", T_RIGHT_BRACKET, []) ∷ (codes ":", T_COLON, []) ∷ []
punctuators (mode.Brackets inside) depth = (codes "]", T_RIGHT_BRACKET, []) ∷ []

abbrev pub IsOneOf : List (Text × ℕ × Text) → ℕ → Text → Text → Type 0
IsOneOf [] id w r = ⊥
IsOneOf (s ∷ ss) id w r = ((w ≡ s.0) × (id ≡ s.1) × (list_any (λ b. next r == b) s.2 ≡ false)) ⊎ IsOneOf ss id w r

-- ---- words

abbrev pub IsWord : ℕ → Text → Text → Type 0
IsWord id w r = (is_word w ≡ true) × (is_in class.Word (next r) ≡ false) × (id ≡ word_id w r)

abbrev pub IsName : ℕ → Text → Text → Type 0
IsName id w r = (is_label w ≡ true) × (is_in class.Name (next r) ≡ false) × (id ≡ braces_id w r)

-- ---- numerals

-- none, or a point and digits
abbrev pub is_fraction : Class → Text → Bool
is_fraction c [] = true
is_fraction c (b ∷ ds) = b == code "." && list_all (is_in c) ds

-- none, or `e`, a sign or none, and digits
abbrev pub is_power : Text → Bool
is_power [] = true
is_power (e ∷ []) = is_exponent e
is_power (e ∷ b ∷ ds) = is_exponent e && ((is_sign b || is_ascii_digit b) && list_all is_ascii_digit ds)

-- `0x` or `0X`, digits, and a fraction
abbrev pub IsHex : Text → Type 0
IsHex w = (x : ℕ) × (whole : Text) × (fraction : Text) × (w ≡ code "0" ∷ x ∷ (whole ++ fraction)) × ((x == 120 || x == 88) ≡ true) × (list_all (is_in class.HexDigit) whole ≡ true) × (is_fraction class.HexDigit fraction ≡ true)

-- digits, a fraction and an exponent; there is a digit before the point or after it
abbrev pub IsDecimal : Text → Text → Type 0
IsDecimal power w =
    (whole : Text) × (fraction : Text) × (w ≡ whole ++ (fraction ++ power)) × (list_all is_ascii_digit whole ≡ true)
    × (is_fraction class.Digit fraction ≡ true) × (is_power power ≡ true) × ((0 < length whole) ⊎ (1 < length fraction))

-- a number that the next byte c does not go on with; c is a unit, or no byte of a name and no point
abbrev pub IsNumber : Text → ℕ → Type 0
IsNumber w c = (IsHex w × (is_in class.HexDigit c ≡ false)) ⊎ ((power : Text) × IsDecimal power w × ((length power == 1 && is_sign c) ≡ false))

-- a unit, with or without `s`
abbrev pub is_unit_text : Bool → Text → Bool
is_unit_text first u = is_unit first (next u) && (length u == 1 || (length u == 2 && slice_index u 1 == 115))

-- a number and a unit, and then parts of digits and a unit
abbrev pub IsDuration : Text → Type 0
IsDuration w =
    (n : Text) × (u : Text) × (ps : List (Text × Text)) × (w ≡ n ++ (u ++ parts_text ps)) × IsNumber n (next u) × (is_unit_text true u ≡ true) × (list_all (is_part false) ps ≡ true)

-- no letter, digit or `_` follows, nor a point on a number
abbrev pub IsNumeral : ℕ → Text → Text → Type 0
IsNumeral id w r =
    (is_in class.Name (next r) ≡ false) × (((id ≡ T_NUMBER) × IsNumber w (next r) × ((next r == code ".") ≡ false)) ⊎ ((id ≡ T_DURATION) × IsDuration w))

-- ---- strings

abbrev pub has_escapes : ℕ → Bool
has_escapes quote = quote == code "\"" || quote == code "'"

-- what may be between quotes: between backticks all but a backtick
abbrev pub IsBody : ℕ → Text → Type 0
IsBody quote body =
    (((quote == code "`") ≡ true) × (list_all (λ b. not (b == code "`")) body ≡ true))
    ⊎ ((has_escapes quote ≡ true) × (ps : List Text) × (list_all (is_spelling quote) ps ≡ true) × (body ≡ concat ps))

abbrev pub IsString : ℕ → Text → Type 0
IsString id w = (id ≡ T_STRING) × (quote : ℕ) × (body : Text) × IsBody quote body × (w ≡ quote ∷ (body ++ quote ∷ []))

-- ---- tokens

-- in brackets a numeral begins with a digit
abbrev pub MayBegin : Mode → ℕ → ℕ → Text → Text → Type 0
MayBegin mode.Outside depth id w r = IsOneOf (punctuators mode.Outside depth) id w r ⊎ (IsWord id w r ⊎ (IsNumeral id w r ⊎ IsString id w))
MayBegin mode.Braces depth id w r = IsOneOf (punctuators mode.Braces depth) id w r ⊎ (IsName id w r ⊎ IsString id w)
MayBegin (mode.Brackets inside) depth id w r = IsOneOf (punctuators (mode.Brackets inside) depth) id w r ⊎ ((is_ascii_digit (next w) ≡ true) × IsNumeral id w r)

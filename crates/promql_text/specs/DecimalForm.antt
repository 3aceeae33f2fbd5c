-- The decimal form of a text (docs/reference/texts.md, "The decimal form"). A text is a list of codes: bytes or
-- characters.
use Rattle.std.specs.Prelude.{ℕ, Bool, ◌&&◌, ◌||◌, if◌then◌else◌, ◌==◌, ◌++◌, length, take, drop, slice_index, codes, Option, Some, None, option_map}
use Rattle.std.specs.Char.{is_ascii_digit}
use Rattle.std.specs.List.{prefix_len}
use Rattle.std.specs.Str.{bytes_eq, str_to_ascii_lowercase}
use Rattle.std.specs.Str.Parse.{digits_value}
use Rattle.promql_text.specs.Texts.{Text}

-- the first code, or 0 where there is none
abbrev pub front : Text → ℕ
front s = slice_index s 0

-- the longest run of digits at the start, and what comes after it
abbrev pub digit_run : Text → Text
digit_run s = take (prefix_len is_ascii_digit s) s

abbrev pub past_run : Text → Text
past_run s = drop (prefix_len is_ascii_digit s) s

-- `+` or `-` at the start, and the text without it
abbrev pub is_minus : Text → Bool
is_minus s = front s == 45

abbrev pub without_sign : Text → Text
without_sign s = if front s == 43 || front s == 45 then drop 1 s else s

-- the text without a point at its start
abbrev pub past_point : Text → Text
past_point s = if front s == 46 then drop 1 s else s

-- the text is the word in any case of its letters; the word is in lower case
abbrev pub is_word : Text → Text → Bool
is_word s word = bytes_eq (str_to_ascii_lowercase s) word

-- the digits before the point, those after it, and the exponent's sign and digits
pub record Numeral : Type 0 where
  pub whole : Text
  pub fraction : Text
  pub is_down : Bool
  pub exponent : Text

-- what comes after the digits of a numeral: nothing, or `e`, a sign or none, and one or more digits
abbrev pub is_exponent : Text → Bool
is_exponent s =
    let digits = without_sign (drop 1 s) in
    (front s == 101 || front s == 69) && (is_ascii_digit (front digits) && length (past_run digits) == 0)

abbrev pub ends_well : Text → Bool
ends_well s = length s == 0 || is_exponent s

-- one or more digits with a point or none, and their end
unfoldable pub numeral : Text → Option Numeral
numeral s =
    let after_point = past_point (past_run s) in
    let end = past_run after_point in
    if (is_ascii_digit (front s) || is_ascii_digit (front after_point)) && ends_well end
    then Some (record { whole = digit_run s; fraction = digit_run after_point; is_down = is_minus (drop 1 end); exponent = digit_run (without_sign (drop 1 end)) })
    else None

-- What a text of the decimal form is without its sign.
pub data Reading : Type 0 where
  NotANumber Infinite : Reading
  Finite : Numeral → Reading

unfoldable pub reading : Text → Option Reading
reading s =
    if is_word s (codes "inf") || is_word s (codes "infinity") then Some Infinite
    else (if is_word s (codes "nan") then Some NotANumber
    else option_map Finite (numeral s))

-- a text's sign and what it reads as; None where it is not of the decimal form
pub record Signed : Type 0 where
  pub is_negative : Bool
  pub reading : Reading

unfoldable pub decimal_form : Text → Option Signed
decimal_form s = option_map (λ r. record { is_negative = is_minus s; reading = r }) (reading (without_sign s))

-- the whole number of all digits of a numeral
abbrev pub digits_number : Numeral → ℕ
digits_number n = digits_value 10 (n.whole ++ n.fraction)

-- how many of them come after the point, and the size of the exponent
abbrev pub places : Numeral → ℕ
places n = length n.fraction

abbrev pub exponent_size : Numeral → ℕ
exponent_size n = digits_value 10 n.exponent

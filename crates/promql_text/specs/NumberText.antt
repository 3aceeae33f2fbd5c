-- The number of a text, and the text of a number (docs/reference/texts.md, "Numbers").
use Rattle.std.specs.Prelude.{ℕ, ◌+◌, ◌/◌, ◌^◌, Bool, not, ◌&&◌, ◌||◌, if◌then◌else◌, ◌==◌, nat_lt, nat_le, length, drop, codes, Option, Some, None, option_map, Result, Ok, Err}
use Rattle.std.specs.Char.{digit_value, is_not_whitespace}
use Rattle.std.specs.List.{filter, list_all, list_any}
use Rattle.std.specs.Option.{ok_or}
use Rattle.std.specs.Str.{chars}
use Rattle.std.specs.Str.Parse.{digits_value}
use Rattle.promql_text.specs.Texts.{Text}
use Rattle.promql_text.specs.DecimalForm.{front, without_sign, is_minus, Numeral, Reading, NotANumber, Infinite, Signed, decimal_form, digits_number, places, exponent_size}
use Rattle.promql_text.specs.DecimalForm as form
use Rattle.promql_text.specs.NumberDigits.{exact_text}
use Rattle.promql_text.specs.Numbers.{Exact, tens, from_digits, whole}
use Rattle.promql_text.specs.declared.number.Number.{Number}
use Rattle.promql_text.specs.declared.number.Number.TheVariants as number
use Rattle.promql_text.specs.declared.number.NumberFault.{NumberFault}
use Rattle.promql_text.specs.declared.number.NumberFault.TheVariants as fault

-- the characters of a text but for white space
abbrev pub without_whitespace : Text → Text
without_whitespace s = filter is_not_whitespace (chars s)

-- a character of ASCII that is seen: neither white space nor a control character
abbrev pub is_visible : ℕ → Bool
is_visible c = nat_le 33 c && nat_le c 126

-- ---- hexadecimal and octal texts

abbrev pub is_x : ℕ → Bool
is_x c = c == 120 || c == 88

abbrev pub is_digit_below : ℕ → ℕ → Bool
is_digit_below radix c = nat_lt (digit_value c) radix

-- one or more digits in this radix, of a number up to 2^63 - 1
unfoldable pub radix_number : ℕ → Bool → Text → Result Number NumberFault
radix_number radix is_negative digits =
    if not (length digits == 0) && list_all (is_digit_below radix) digits
    then (if nat_lt (digits_value radix digits) (2 ^ 63) then Ok (number.Finite (whole is_negative (digits_value radix digits))) else Err fault.OutOfRange)
    else Err fault.NotANumber

-- a text with an `x` is a sign or none, `0x`, and hexadecimal digits
unfoldable pub hexadecimal : Text → Result Number NumberFault
hexadecimal s =
    let body = without_sign s in
    if front body == 48 && is_x (front (drop 1 body)) then radix_number 16 (is_minus s) (drop 2 body) else Err fault.NotANumber

abbrev pub is_past_octal : ℕ → Bool
is_past_octal c = c == 46 || (c == 56 || c == 57)

-- an octal text begins with `0` after a sign or none, is no zero alone, and holds no point and no digit past 7
abbrev pub is_octal : Text → Bool
is_octal s = front (without_sign s) == 48 && (not (length (drop 1 (without_sign s)) == 0) && not (list_any is_past_octal s))

-- ---- decimal texts

-- c and z zeros after it at the place that the numeral's point and exponent give
abbrev pub at_place : Bool → ℕ → ℕ → Numeral → Option Exact
at_place is_negative c z n =
    if n.is_down then from_digits is_negative c z (places n + exponent_size n)
    else from_digits is_negative c (z + exponent_size n) (places n)

-- how many zeros end the digits of a numeral above zero
abbrev pub zeros_of : Numeral → ℕ
zeros_of n = tens (length n.whole + length n.fraction) (digits_number n)

-- its digits without these zeros, at their place; at most 38
unfoldable pub finite : Bool → Numeral → Result Number NumberFault
finite is_negative n =
    let z = zeros_of n in
    let c = digits_number n / 10 ^ z in
    if nat_le (10 ^ 38) c then Err fault.TooManyDigits
    else ok_or (option_map number.Finite (at_place is_negative c z n)) fault.OutOfRange

abbrev pub apply_sign : Bool → Reading → Result Number NumberFault
apply_sign is_negative NotANumber = Ok number.NaN
apply_sign is_negative Infinite = Ok (if is_negative then number.NegInf else number.Inf)
apply_sign is_negative (form.Finite n) = finite is_negative n

abbrev pub of_form : Option Signed → Result Number NumberFault
of_form None = Err fault.NotANumber
of_form (Some f) = apply_sign f.is_negative f.reading

-- ---- the number of a text

unfoldable pub number_of : Text → Result Number NumberFault
number_of s =
    if list_any is_x s then hexadecimal s
    else (if is_octal s then radix_number 8 (is_minus s) (drop 1 (without_sign s))
    else of_form (decimal_form s))

abbrev pub read_number : Text → Result Number NumberFault
read_number s = number_of (without_whitespace s)

-- ---- the text of a number

abbrev pub number_text : Number → Text
number_text (number.Finite d) = exact_text d
number_text number.Inf = codes "Inf"
number_text number.NegInf = codes "-Inf"
number_text number.NaN = codes "NaN"

-- Classes of bytes, and runs of one class (docs/reference/tokens.md, "Bytes").
use Rattle.std.specs.Prelude.{ℕ, ◌+◌, Bool, ◌||◌, ◌==◌, ◌&&◌, length, drop, slice_index}
use Rattle.std.specs.Char.{is_ascii_alphabetic, is_ascii_alphanumeric, is_ascii_digit, is_ascii_hexdigit, is_ascii_whitespace}
use Rattle.std.specs.List.{prefix_len}
use Rattle.promql_text.specs.Texts.{Text, code}
use Rattle.promql_token.specs.declared.class.Class.{Class}
use Rattle.promql_token.specs.declared.class.Class.TheVariants as class

abbrev pub is_letter : ℕ → Bool
is_letter b = is_ascii_alphabetic b || b == code "_"

abbrev pub is_in : Class → ℕ → Bool
is_in class.White b = is_ascii_whitespace b
is_in class.Digit b = is_ascii_digit b
is_in class.HexDigit b = is_ascii_hexdigit b
is_in class.Name b = is_ascii_alphanumeric b || b == code "_"
is_in class.Word b = (is_ascii_alphanumeric b || b == code "_") || b == code ":"

-- the first place from `at` on whose byte is not of the class
abbrev pub end_of_run : Class → Text → ℕ → ℕ
end_of_run c z at = at + prefix_len (is_in c) (drop at z)

-- a letter or `_`, then letters, digits and `_`
abbrev pub is_label : Text → Bool
is_label z = is_letter (slice_index z 0) && end_of_run class.Name z 0 == length z

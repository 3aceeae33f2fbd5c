-- Words for the parts of tokens (docs/reference/tokens.md, "Outside", "Numerals", "Strings").
use Rattle.std.specs.Prelude.{ℕ, Bool, true, false, not, ◌&&◌, ◌||◌, if◌then◌else◌, ◌==◌, List, [], ◌∷◌, ◌++◌, length, slice_index, codes}
use Rattle.std.specs.Char.{is_ascii_digit}
use Rattle.std.specs.List.{list_all, list_any}
use Rattle.std.specs.Option.{unwrap_or}
use Rattle.std.specs.Str.{str_eq_ignore_ascii_case}
use Rattle.promql_token.specs.declared.class.Class.TheVariants as class
use Rattle.promql_token.specs.declared.ids.TheConstants.{T_FILL, T_FILL_LEFT, T_FILL_RIGHT, T_IDENTIFIER, T_LOR, T_METRIC_IDENTIFIER}
use Rattle.promql_token.specs.declared.state.Mode.{Mode}
use Rattle.promql_token.specs.declared.state.Mode.TheVariants as mode
pub use Rattle.promql_text.specs.Quoting.{is_quote}
use Rattle.promql_text.specs.Texts.{Text, code}
use Rattle.promql_token.specs.Classes.{is_letter, end_of_run}
use Rattle.promql_token.specs.Ids.{keyword_in_any_case}

-- the first byte, or NUL where there is none
abbrev pub next : Text → ℕ
next r = slice_index r 0

abbrev pub is_line_end : ℕ → Bool
is_line_end b = b == code "\n" || b == code "\r"

-- ---- words

-- a letter, `_` or `:`, then letters, digits, `_` and `:`
abbrev pub is_word : Text → Bool
is_word w = (is_letter (slice_index w 0) || slice_index w 0 == code ":") && end_of_run class.Word w 0 == length w

abbrev pub is_fill : ℕ → Bool
is_fill id = id == T_FILL || id == T_FILL_LEFT || id == T_FILL_RIGHT

-- whether `(` is the first byte past white space
abbrev pub opens : Text → Bool
opens z = slice_index z (end_of_run class.White z 0) == code "("

-- of a word that is no keyword
abbrev pub name_id : Text → ℕ
name_id w = if list_any (λ b. b == code ":") w then T_METRIC_IDENTIFIER else T_IDENTIFIER

-- of a word and the text after it; the fill words are keywords only before a parenthesis
abbrev pub word_id : Text → Text → ℕ
word_id w rest = let id = unwrap_or (keyword_in_any_case w) (name_id w) in if is_fill id && not (opens rest) then T_IDENTIFIER else id

-- the same in braces: `or` before a plain space is the operator, and all other words are names
abbrev pub braces_id : Text → Text → ℕ
braces_id w rest = if str_eq_ignore_ascii_case w (codes "or") && slice_index rest 0 == code " " then T_LOR else T_IDENTIFIER

-- ---- numerals

abbrev pub is_sign : ℕ → Bool
is_sign b = b == code "+" || b == code "-"

abbrev pub is_exponent : ℕ → Bool
is_exponent b = b == 101 || b == 69

-- a unit; only the first may be `y`
abbrev pub is_unit : Bool → ℕ → Bool
is_unit first b = list_any (λ k. b == k) (codes "smhdw") || (first && b == 121)

-- digits, and a unit with or without `s`
abbrev pub is_part : Bool → Text × Text → Bool
is_part first p =
    not (length p.0 == 0) && list_all is_ascii_digit p.0 && is_unit first (slice_index p.1 0) && (length p.1 == 1 || (length p.1 == 2 && slice_index p.1 1 == 115))

abbrev pub parts_text : List (Text × Text) → Text
parts_text [] = []
parts_text (p ∷ ps) = p.0 ++ (p.1 ++ parts_text ps)

-- ---- strings

-- strings may begin outside and in braces
abbrev pub holds_strings : Mode → Bool
holds_strings mode.Outside = true
holds_strings mode.Braces = true
holds_strings (mode.Brackets inside) = false

-- what may follow a backslash between these quotes
abbrev pub is_escape : ℕ → ℕ → Bool
is_escape quote b = b == quote || b == code "\\" || list_any (λ k. b == k) (codes "abfnrtv01234567xuU")

-- between these quotes: bytes that are neither the quote nor a backslash, or an escape's first two
abbrev pub is_spelling : ℕ → Text → Bool
is_spelling quote p =
    list_all (λ b. not (b == quote) && not (b == code "\\")) p || (length p == 2 && slice_index p 0 == code "\\" && is_escape quote (slice_index p 1))

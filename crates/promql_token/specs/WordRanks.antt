-- How a byte is to names and words, and numbers in a row. Private: nothing rests on believing it.
use Rattle.std.specs.Prelude.{ℕ, zero, suc, ◌+◌, Bool, if◌then◌else◌, ◌==◌, List, [], ◌∷◌}
use Rattle.std.specs.Char.{is_ascii_digit}
use Rattle.promql_text.specs.Texts.{code}
use Rattle.promql_token.specs.declared.class.Class.TheVariants as class
use Rattle.promql_token.specs.Classes.{is_in, is_letter}

-- the numbers from n on
abbrev pub count_up : ℕ → ℕ → List ℕ
count_up n zero = []
count_up n (suc more) = n ∷ count_up (n + 1) more

-- the bytes of names, and those of words
abbrev pub is_name_byte : ℕ → Bool
is_name_byte = is_in class.Name

abbrev pub is_word_byte : ℕ → Bool
is_word_byte = is_in class.Word

-- 3 for the bytes that begin names, 2 for the digits, which names have too, 1 for the colon, which words have too, and 0 for every other byte
abbrev pub word_rank : ℕ → ℕ
word_rank b = if is_letter b then 3 else (if is_ascii_digit b then 2 else (if b == code ":" then 1 else 0))

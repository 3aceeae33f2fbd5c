-- What the text of a token outside braces says of its id: the statement of a lemma. Private: nothing rests on believing it.
use Rattle.std.specs.Prelude.{◌≡◌, ◌⊎◌, ℕ, Bool, true, false, ◌||◌, if◌then◌else◌, ◌==◌, List, [], ◌∷◌, slice_index, Ok}
use Rattle.std.specs.List.{list_any}
use Rattle.promql_token.specs.declared.class.Class.TheVariants as class
use Rattle.promql_token.specs.declared.ids.TheConstants.{T_ADD, T_AT, T_COLON, T_COMMA, T_DIV, T_DURATION, T_EOF, T_EQL, T_EQLC, T_GTE, T_GTR, T_LEFT_BRACE, T_LEFT_BRACKET, T_LEFT_PAREN, T_LSS, T_LTE, T_MOD, T_MUL, T_NEQ, T_NUMBER, T_POW, T_RIGHT_BRACE, T_RIGHT_BRACKET, T_RIGHT_PAREN, T_STRING, T_SUB}
use Rattle.promql_text.specs.Texts.{Text, code}
use Rattle.promql_token.specs.Classes.{is_in}
use Rattle.promql_token.specs.Laws.{is_word}
use Rattle.promql_token.specs.Lexing.{tokens}
use Rattle.promql_token.specs.TokenScanning.{word_id}

-- the ids of punctuators, numerals, strings and the end
abbrev pub no_words : List ℕ
no_words =
    T_EQL ∷ T_COLON ∷ T_COMMA ∷ T_DURATION ∷ T_EOF ∷ T_LEFT_BRACE ∷ T_LEFT_BRACKET ∷ T_LEFT_PAREN ∷ T_NUMBER ∷ T_RIGHT_BRACKET ∷ T_RIGHT_PAREN ∷ T_STRING
    ∷ T_ADD ∷ T_DIV ∷ T_EQLC ∷ T_GTE ∷ T_GTR ∷ T_LSS ∷ T_LTE ∷ T_MOD ∷ T_MUL ∷ T_NEQ ∷ T_POW ∷ T_SUB ∷ T_AT ∷ []

abbrev pub is_no_word : ℕ → Bool
is_no_word id = list_any (λ k. id == k) no_words

-- a word, with its id before some text
abbrev pub IsWordToken : ℕ × Text → Type 0
IsWordToken t = (is_word t.1 ≡ true) × ((rest : Text) × (t.0 ≡ word_id t.1 rest))

-- a letter, a digit, `_`, `:` or a point comes first, so no sign
abbrev pub begins_unsigned : Text → Bool
begins_unsigned w = is_in class.Word (slice_index w 0) || slice_index w 0 == code "."

-- a token outside braces
pub record IsSpelled (t : ℕ × Text) : Type 0 where
  pub word : IsWordToken t ⊎ (is_no_word t.0 ≡ true)
  pub number : t.0 ≡ T_NUMBER → begins_unsigned t.1 ≡ true

-- whether what follows a token is in braces
abbrev pub in_braces_after : Bool → ℕ → Bool
in_braces_after inside id =
    if id == T_LEFT_BRACE then true
    else (if id == T_LEFT_BRACKET then false
    else (if id == T_RIGHT_BRACE || id == T_RIGHT_BRACKET then false else inside))

abbrev pub AreSpelled : Bool → List (ℕ × Text) → Type 0
AreSpelled inside [] = Unit {0}
AreSpelled inside (t ∷ ts) = (inside ≡ false → IsSpelled t) × AreSpelled (in_braces_after inside t.0) ts

-- each token of a text that is not in braces is a word with its id, or no word
abbrev pub Spelled : Type 0
Spelled = (s : Text) (ts : List (ℕ × Text)) → tokens s ≡ Ok ts → AreSpelled false ts

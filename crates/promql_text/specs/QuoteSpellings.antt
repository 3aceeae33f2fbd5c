-- Quoted texts as spellings of characters: docs/reference/texts.md, "Strings".
use Rattle.std.specs.Prelude.{◌≡◌, ◌≢◌, ℕ, ◌≤◌, true, if◌then◌else◌, ◌==◌, List, [], ◌∷◌, ◌++◌, length, Option, Some, None}
use Rattle.std.specs.Char.{encode_utf8, IsScalar}
use Rattle.std.specs.Str.Parse.{AllDigits, digits_value}
use Rattle.promql_text.specs.Texts.{Text}
use Rattle.promql_text.specs.Quoting.{is_quote, letter}

-- how many hexadecimal digits come after `x`, `u` and `U`
abbrev pub escape_digits : ℕ → Option ℕ
escape_digits b = if b == 120 then Some 2 else (if b == 117 then Some 4 else (if b == 85 then Some 8 else None))

-- a text is for a character between these quotes: for itself, or an escape: the own quote, a letter, three octal digits, or hexadecimal
-- digits after a letter
pub data Spells (quote : ℕ) : Text → ℕ → Type 0 where
  itself : (c : ℕ) → IsScalar c → c ≢ quote → (quote ≢ 96 → (c ≢ 10) × (c ≢ 92)) → Spells quote (encode_utf8 c) c
  own_quote : quote ≢ 96 → Spells quote (92 ∷ quote ∷ []) quote
  by_letter : (b c : ℕ) → quote ≢ 96 → letter b ≡ Some c → Spells quote (92 ∷ b ∷ []) c
  octal : (x y z c : ℕ) → quote ≢ 96 → AllDigits 8 (x ∷ y ∷ z ∷ []) → digits_value 8 (x ∷ y ∷ z ∷ []) ≡ c → c ≤ 255
      → Spells quote (92 ∷ x ∷ y ∷ z ∷ []) c
  hexadecimal : (b c : ℕ) (ds : Text) → quote ≢ 96 → escape_digits b ≡ Some (length ds) → AllDigits 16 ds → digits_value 16 ds ≡ c → IsScalar c
      → Spells quote (92 ∷ b ∷ ds) c

-- texts in a row, and the characters that they are for
pub data AreSpelled (quote : ℕ) : Text → List ℕ → Type 0 where
  no_more : AreSpelled quote [] []
  and_more : (w z : Text) (c : ℕ) (cs : List ℕ) → Spells quote w c → AreSpelled quote z cs → AreSpelled quote (w ++ z) (c ∷ cs)

-- "Quoted texts": the text is a quote, spellings of these characters, and the same quote
abbrev pub IsQuotedText : Text → List ℕ → Type 0
IsQuotedText s cs = (quote : ℕ) × (z : Text) × (is_quote quote ≡ true) × AreSpelled quote z cs × (s ≡ quote ∷ (z ++ quote ∷ []))

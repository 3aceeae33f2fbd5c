-- Repetitions in a pattern: docs/reference/matchers.md, "Repetitions".
use Rattle.std.specs.Prelude.{◌≡◌, ℕ, ◌<◌, Bool, true, not, ◌==◌, ◌&&◌, ◌||◌, if◌then◌else◌, [], ◌∷◌, ◌++◌, length, drop, slice_index, codes}
use Rattle.std.specs.Char.{is_ascii_digit}
use Rattle.std.specs.List.{list_all, prefix_len}
use Rattle.promql_text.specs.Texts.{Text}

-- one or more digits
abbrev pub IsNumeral : Text → Type 0
IsNumeral n = (0 < length n) × (list_all is_ascii_digit n ≡ true)

-- "Repetitions": a count, which is `n}`, `n,}` or `n,m}`, comes before some text
pub data OpensCount : Text → Type 0 where
  exactly : (n z : Text) → IsNumeral n → OpensCount (n ++ (codes "}" ++ z))
  at_least : (n z : Text) → IsNumeral n → OpensCount (n ++ (codes ",}" ++ z))
  between : (n m z : Text) → IsNumeral n → IsNumeral m → OpensCount (n ++ (codes "," ++ (m ++ (codes "}" ++ z))))

-- what is left after the digits that the text begins with
abbrev pub after_digits : Text → Text
after_digits z = drop (prefix_len is_ascii_digit z) z

-- whether a count comes next: the law `counts`
abbrev pub opens_count : Text → Bool
opens_count z =
    is_ascii_digit (slice_index z 0)
    && (let end = after_digits z in
    slice_index end 0 == 125
    || slice_index end 0 == 44 && slice_index (after_digits (drop 1 end)) 0 == 125)

-- "Repetitions": a `{` after which no count comes
abbrev pub is_literal_brace : ℕ → Text → Bool
is_literal_brace b z = b == 123 && not (opens_count z)

-- "Repetitions": the escaped form of a pattern, from a place on where `taken` says whether a backslash takes the next byte
abbrev pub backslashed : Bool → Text → Text
backslashed taken [] = []
backslashed taken (b ∷ z) = (if not taken && is_literal_brace b z then 92 ∷ [] else []) ++ (b ∷ backslashed (not taken && b == 92) z)

-- a byte before z, with a backslash if it is loose
abbrev pub with_backslash : ℕ → Text → Text
with_backslash b z = if is_literal_brace b z then 92 ∷ b ∷ [] else b ∷ []

-- the escaped form as it is computed: the law `places_of_backslashes`. A backslash stays, and so does the byte after it.
abbrev pub escaped_repeats : Text → Text
escaped_repeats [] = []
escaped_repeats (b ∷ []) = with_backslash b []
escaped_repeats (b ∷ c ∷ z) =
    if b == 92 then b ∷ c ∷ escaped_repeats z else with_backslash b (c ∷ z) ++ escaped_repeats (c ∷ z)

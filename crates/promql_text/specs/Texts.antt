-- Texts, and lists of them (docs/reference/texts.md, "Lists").
use Prim.Native.String.{String}
use Rattle.std.specs.Prelude.{ℕ, Bool, if◌then◌else◌, List, [], ◌∷◌, codes, slice_index, Option, Some, None}
use Rattle.std.specs.List.{join_by}

-- a text, as its bytes or its characters
abbrev pub Text : Type 0
Text = List ℕ

-- the byte that this character of ASCII is
abbrev pub code : String → ℕ
code s = slice_index (codes s) 0

-- what a table has beside the first key that is the same
abbrev pub lookup : {K V : Type 0} → (K → K → Bool) → List (K × V) → K → Option V
lookup same [] key = None
lookup same (row ∷ rows) key = if same row.0 key then Some row.1 else lookup same rows key

-- "Lists": the texts in a row, with a separator between each two
abbrev pub joined_text : Text → List Text → Text
joined_text = join_by (λ t. t)

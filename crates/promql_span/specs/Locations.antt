-- Lines and columns of a text (docs/reference/texts.md, "Lines and columns"). A text is its characters here.
use Rattle.std.specs.Prelude.{ℕ, ◌+◌, ◌-◌, Bool, ◌==◌, nat_lt, if◌then◌else◌, [], ◌∷◌, ◌++◌, length}
use Rattle.std.specs.Char.{len_utf8}
use Rattle.std.specs.Char.Escape.{encode_utf16}
use Rattle.std.specs.Fmt.{decimal}
use Rattle.std.specs.Str.{chars}
use Rattle.std.specs.List.{after_last, count_by, sum_by}
use Rattle.promql_text.specs.Texts.{Text, code}
use Rattle.promql_span.specs.declared.location.Location.{Location}

-- the characters that end at this byte or before it
abbrev pub characters_before : Text → ℕ → Text
characters_before [] offset = []
characters_before (c ∷ cs) offset = if nat_lt offset (len_utf8 c) then [] else c ∷ characters_before cs (offset - len_utf8 c)

abbrev pub is_line_feed : ℕ → Bool
is_line_feed c = c == code "\n"

abbrev pub column_utf16_of : Text → ℕ → ℕ
column_utf16_of cs offset = 1 + sum_by (λ c. length (encode_utf16 c)) (after_last is_line_feed (characters_before cs offset))

-- where the byte at an offset of a text is
abbrev pub location_of : Text → ℕ → Location
location_of text offset =
    let before = characters_before (chars text) offset in
    record { line = 1 + count_by is_line_feed before; column = 1 + length (after_last is_line_feed before) }

-- the line, a colon, the column
abbrev pub location_text : Location → Text
location_text place = decimal place.line ++ code ":" ∷ decimal place.column

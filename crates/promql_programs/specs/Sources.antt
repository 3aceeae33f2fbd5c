-- Where a query comes from (docs/reference/programs.md, "Files").
use Rattle.std.specs.Prelude.{◌≡◌, ◌≢◌, ◌⊎◌, ◌++◌, Bool, true, false, codes}
use Rattle.std.specs.Char.{encode_utf8}
use Rattle.promql_text.specs.Texts.{Text}

-- a byte order mark
abbrev pub byte_order_mark : Text
byte_order_mark = encode_utf8 65279

-- the text of an input is that, or of a file what comes after the byte order mark at its start
abbrev pub IsTextIn : (is_file : Bool) → Text → Text → Type 0
IsTextIn false input text = input ≡ text
IsTextIn true input text = (input ≡ byte_order_mark ++ text) ⊎ ((input ≡ text) × ((rest : Text) → input ≢ byte_order_mark ++ rest))

-- this is the text, or what is before this end of it
abbrev pub IsBefore : Text → Text → Text → Type 0
IsBefore end text front = (text ≡ front ++ end) ⊎ ((text ≡ front) × ((other : Text) → text ≢ other ++ end))

-- a line may end with a carriage return
abbrev pub IsLineIn : Text → Text → Type 0
IsLineIn = IsBefore (codes "\r")

-- the query of a text is that, or what is before the line end at its end
abbrev pub IsQueryIn : Text → Text → Type 0
IsQueryIn text query = ((line : Text) × (text ≡ line ++ codes "\n") × IsLineIn line query) ⊎ ((text ≡ query) × ((other : Text) → text ≢ other ++ codes "\n"))

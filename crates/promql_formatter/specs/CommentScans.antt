-- The comments of what lies between two tokens, byte by byte. Private: nothing rests on believing it.
use Rattle.std.specs.Prelude.{Bool, true, false, ◌==◌, if◌then◌else◌, [], ◌∷◌}
use Rattle.promql_text.specs.Texts.{Text, code}
use Rattle.promql_token.specs.Vocabulary.{is_line_end}

-- inside a comment or outside
abbrev pub scan : Bool → Text → Text
scan false [] = []
scan true [] = code "\n" ∷ []
scan false (b ∷ bs) = if b == code "#" then b ∷ scan true bs else scan false bs
scan true (b ∷ bs) = if is_line_end b then code "\n" ∷ scan false bs else b ∷ scan true bs

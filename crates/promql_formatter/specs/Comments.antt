-- The comments of a text (docs/reference/formatting.md, "Comments").
use Rattle.std.specs.Prelude.{ℕ, ◌+◌, ◌-◌, ◌==◌, if◌then◌else◌, List, [], ◌∷◌, ◌++◌, drop, map, take}
use Rattle.std.specs.List.{concat, slice_split}
use Rattle.promql_text.specs.Texts.{Text, code}
use Rattle.promql_token.specs.declared.lexeme.Lexeme.{Lexeme}
use Rattle.promql_token.specs.Lexing.{items}
use Rattle.std.specs.Result.{ok_prefix}
use Rattle.promql_token.specs.Vocabulary.{is_line_end}

-- what comes before each token from `at` on, and after the last
abbrev pub gaps : Text → ℕ → List Lexeme → List Text
gaps s at [] = drop at s ∷ []
gaps s at (x ∷ xs) = take (x.start - at) (drop at s) ∷ gaps s (x.start + x.len) xs

-- the comment of a line with its end, from the first `#` on
abbrev pub line_comment : Text → Text
line_comment [] = []
line_comment (b ∷ bs) = if b == code "#" then (b ∷ bs) ++ code "\n" ∷ [] else line_comment bs

-- the comments between the tokens, in order, each as a line
abbrev pub comment_lines : Text → Text
comment_lines s = concat (map (λ gap. concat (map line_comment (slice_split is_line_end gap))) (gaps s 0 (ok_prefix (items s))))

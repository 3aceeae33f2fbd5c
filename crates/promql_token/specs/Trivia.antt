-- Trivia, and the places of the tokens between them (docs/reference/tokens.md, "The token list of a text").
use Rattle.std.specs.Prelude.{◌≡◌, ◌⊎◌, ℕ, ◌+◌, ◌-◌, ◌≤◌, true, false, not, ◌==◌, List, [], ◌∷◌, ◌++◌, length, take, drop}
use Rattle.std.specs.Char.{is_ascii_whitespace}
use Rattle.std.specs.List.{concat, list_all}
use Rattle.std.specs.Str.{IsCharBoundary}
use Rattle.promql_token.specs.declared.lexeme.Lexeme.{Lexeme}
use Rattle.promql_token.specs.declared.state.Mode.{Mode}
use Rattle.promql_token.specs.declared.state.Mode.TheVariants as mode
use Rattle.promql_text.specs.Texts.{Text, code}
use Rattle.promql_token.specs.States.{mode_at}
use Rattle.promql_token.specs.Vocabulary.{is_line_end, next}

-- ---- trivia

-- `#`, and what follows through the first line end, or to the end of the text
abbrev pub IsComment : Text → Text → Type 0
IsComment c r = (line : Text) × (list_all (λ b. not (is_line_end b)) line ≡ true) × (((e : ℕ) × (is_line_end e ≡ true) × (c ≡ code "#" ∷ (line ++ e ∷ []))) ⊎ ((c ≡ code "#" ∷ line) × (r ≡ [])))

-- white space and comments in a row, before the text r
abbrev pub AreBlank : List Text → Text → Type 0
AreBlank [] r = Unit {0}
AreBlank (p ∷ ps) r = ((list_all is_ascii_whitespace p ≡ true) ⊎ IsComment p (concat ps ++ r)) × AreBlank ps r

-- a trivia before the text r, as long as it can be; in brackets there are no comments
abbrev pub IsTriviaIn : Mode → Text → Text → Type 0
IsTriviaIn (mode.Brackets inside) g r = (list_all is_ascii_whitespace g ≡ true) × (is_ascii_whitespace (next r) ≡ false)
IsTriviaIn m g r = (ps : List Text) × (g ≡ concat ps) × AreBlank ps r × (is_ascii_whitespace (next r) ≡ false) × ((next r == code "#") ≡ false)

-- ---- spans

-- a token begins and ends between characters, so that its text is a text
abbrev pub IsPlaced : Text → Lexeme → Type 0
IsPlaced s x = IsCharBoundary s x.start × IsCharBoundary s (x.start + x.len)

-- from `at` on, after tokens with these ids, spans are in order and between characters, and only trivia lie between them
abbrev pub AreSpans : Text → List ℕ → ℕ → List Lexeme → Type 0
AreSpans s before at [] = Unit {0}
AreSpans s before at (x ∷ xs) =
    (at ≤ x.start) × IsTriviaIn (mode_at before) (take (x.start - at) (drop at s)) (drop x.start s) × (x.start + x.len ≤ length s) × IsPlaced s x × AreSpans s (x.id ∷ before) (x.start + x.len) xs

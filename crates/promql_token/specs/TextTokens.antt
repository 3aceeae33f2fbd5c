-- The tokens of any text, accepted or not, with its comments and what no token begins with (docs/reference/tokens.md,
-- "The tokens of any text").
use Rattle.std.specs.Prelude.{◌≡◌, ℕ, suc, ◌+◌, ◌-◌, ◌<◌, Bool, true, false, not, ◌&&◌, if◌then◌else◌, ◌==◌, nat_lt, List, [], ◌∷◌, length, drop, filter, slice_index, Ok, Err}
use Rattle.std.specs.List.{prefix_len}
use Rattle.promql_token.specs.declared.class.Class.TheVariants as class
use Rattle.promql_token.specs.declared.ids.TheConstants.{T_COMMENT, T_EOF, T_ERROR}
use Rattle.promql_token.specs.declared.lexeme.Lexeme.{Lexeme}
use Rattle.promql_token.specs.declared.state.Mode.{Mode}
use Rattle.promql_token.specs.declared.state.Mode.TheVariants as mode
use Rattle.promql_token.specs.declared.state.State.{State}
use Rattle.promql_text.specs.Texts.{Text, code}
use Rattle.promql_token.specs.Classes.{is_in, end_of_run}
use Rattle.promql_token.specs.Lexing.{start}
use Rattle.promql_token.specs.TokenScanning.{Scanned, after, after_trivia, scan_token}
use Rattle.promql_token.specs.Vocabulary.{is_line_end, is_quote, next}

-- between brackets there are no comments
abbrev pub has_comments : Mode → Bool
has_comments (mode.Brackets inside) = false
has_comments m = true

-- after the opening quote: through the next such quote that no backslash takes, or to the end
abbrev pub past_quote : ℕ → Bool → Text → ℕ
past_quote quote taken [] = 0
past_quote quote true (b ∷ z) = suc (past_quote quote false z)
past_quote quote false (b ∷ z) = if b == quote then 1 else suc (past_quote quote (b == code "\\" && not (quote == code "`")) z)

-- how many bytes come before the end of the line
abbrev pub line_len : Text → ℕ
line_len = prefix_len (λ b. not (is_line_end b))

-- how many bytes in a row are not ASCII
abbrev pub beyond_ascii : Text → ℕ
beyond_ascii = prefix_len (λ b. nat_lt 127 b)

-- how long what no token begins with is: a string, letters, digits and `_` in a row, or a byte with those after it that are not ASCII
abbrev pub error_len : Text → ℕ
error_len z =
    if is_quote (next z) then 1 + past_quote (next z) false (drop 1 z)
    else (if is_in class.Name (next z) then end_of_run class.Name z 0 else 1 + beyond_ascii (drop 1 z))

abbrev pub token_or_error : Scanned → Text → ℕ × ℕ
token_or_error (Ok t) z = t
token_or_error (Err f) z = (T_ERROR, error_len z)

-- the id and the length of what the text begins with: a comment, which ends before its line does, a token or an error
abbrev pub front_token : State → Text → ℕ × ℕ
front_token state z =
    if next z == code "#" && has_comments state.mode then (T_COMMENT, line_len z) else token_or_error (scan_token state z) z

-- the first token from `at` on, after white space alone
abbrev pub IsNext : Text → State → ℕ → Lexeme → Type 0
IsNext s state at x =
    (x.start ≡ end_of_run class.White s at) × (x.start < length s) × (front_token (after_trivia (x.start - at) state) (drop x.start s) ≡ (x.id, x.len))

-- from `at` on, in this state, and then white space alone to the end
abbrev pub AreTokens : Text → State → ℕ → List Lexeme → Type 0
AreTokens s state at [] = end_of_run class.White s at ≡ length s
AreTokens s state at (x ∷ xs) = IsNext s state at x × AreTokens s (after state x.id) (x.start + x.len) xs

-- all tokens of a text
abbrev pub AreTextTokens : Text → List Lexeme → Type 0
AreTextTokens s xs = AreTokens s start 0 xs

-- no token begins as a comment does
abbrev pub is_comment : Text → Lexeme → Bool
is_comment s x = slice_index s x.start == code "#"

abbrev pub without_comments : Text → List Lexeme → List Lexeme
without_comments s = filter (λ x. not (is_comment s x))

abbrev pub before_end : List Lexeme → List Lexeme
before_end = filter (λ x. not (x.id == T_EOF))

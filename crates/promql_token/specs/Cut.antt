-- The token list told by the text and the tokens before a place alone (docs/reference/tokens.md,
-- "The token list of a text").
use Rattle.std.specs.Prelude.{ℕ, List, ◌∷◌, Ok, Err}
use Rattle.promql_token.specs.Lexing.{ScannedText}
pub use Rattle.promql_token.specs.States.{count_of, is_bound, mode_at, mode_by, state_at}

abbrev pub ids_after : List ℕ → ScannedText → List ℕ
ids_after before (Ok t) = t.0 ∷ before
ids_after before (Err f) = before

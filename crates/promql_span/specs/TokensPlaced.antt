-- Private: names for the statements of the law `tokens_are_placed`, for proofs; nothing rests on believing them.
use Rattle.std.specs.Prelude.{◌≡◌, ℕ, List, filter, Ok}
use Rattle.std.specs.Result.{ok_prefix}
use Rattle.promql_text.specs.Texts.{Text}
use Rattle.promql_token.specs.Cursor.{is_before_end}
use Rattle.promql_token.specs.Lexing.{pieces, slice_texts, start, tokens}
use Rattle.promql_span.specs.PlacedTokens.{placed_tokens}

-- the tokens with their places are those of the token list
abbrev pub TokensArePlaced : Type 0
TokensArePlaced = (s : Text) (ts : List (ℕ × Text)) → tokens s ≡ Ok ts → filter is_before_end ts ≡ slice_texts s (placed_tokens s)

-- and those that a cursor gives, up to the end or to the fault
abbrev pub PiecesArePlaced : Type 0
PiecesArePlaced = (s : Text) → filter is_before_end (ok_prefix (pieces start s)) ≡ slice_texts s (placed_tokens s)

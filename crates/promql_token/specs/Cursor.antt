-- What is still to be drawn from a cursor.
use Rattle.std.specs.Prelude.{ℕ, Bool, not, ◌==◌, List, drop, filter}
use Rattle.std.specs.List.{list_any}
use Rattle.std.specs.Result.{is_err, ok_prefix}
use Rattle.promql_token.specs.declared.ids.TheConstants.{T_EOF}
use Rattle.promql_token.specs.declared.cursor.Cursor as code
use Rattle.promql_text.specs.Texts.{Text}
use Rattle.promql_token.specs.Lexing.{pieces, start}

-- every token but T_EOF, which is the last
abbrev pub is_before_end : ℕ × Text → Bool
is_before_end t = not (t.0 == T_EOF)

-- the tokens of a text before its end, or before its fault
abbrev pub tokens_up_to_fault : Text → List (ℕ × Text)
tokens_up_to_fault s = filter is_before_end (ok_prefix (pieces start s))

-- the tokens that are to come, before the end
abbrev pub tokens_left : code.Cursor → List (ℕ × Text)
tokens_left c = filter is_before_end (ok_prefix (pieces c.state (drop c.at c.text.now)))

-- whether what is to come ends in a fault
abbrev pub ends_in_fault : code.Cursor → Bool
ends_in_fault c = list_any is_err (pieces c.state (drop c.at c.text.now))

-- A token at the front of a text. Private: nothing rests on believing it.
use Rattle.std.specs.Prelude.{◌≡◌, ◌≢◌, ℕ, Bool, ◌||◌, ◌==◌, List, drop, Ok}
use Rattle.std.specs.List.{list_any}
use Rattle.std.specs.Result.{is_err, ok_prefix}
use Rattle.std.specs.Char.{is_ascii_whitespace}
use Rattle.promql_token.specs.declared.cursor.Cursor as code
use Rattle.promql_token.specs.declared.ids.TheConstants.{T_EOF}
use Rattle.promql_token.specs.declared.state.State.{State}
use Rattle.promql_text.specs.Texts.{Text, code}
use Rattle.promql_token.specs.Lexing.{ScannedText, pieces}
use Rattle.promql_token.specs.TokenScanning.{after, scan_token, trivia_len}

abbrev pub begins_trivia : ℕ → Bool
begins_trivia b = is_ascii_whitespace b || b == code "#"

-- with no trivia before it
pub record IsFront (state : State) (z : Text) (id len : ℕ) : Type 0 where
  pub trivia : trivia_len state.mode z ≡ 0
  pub scanned : scan_token state z ≡ Ok (id, len)
  pub no_end : id ≢ T_EOF

-- one that changes no state
pub record IsFrontWord (state : State) (z : Text) (id len : ℕ) : Type 0 where
  pub front : IsFront state z id len
  pub stays : after state id ≡ state

-- a punctuator's text and id, and the bytes that may not follow it
abbrev pub Punctuator : Type 0
Punctuator = Text × ℕ × Text

-- the tokens up to a fault
abbrev pub up_to_fault : List ScannedText → List (ℕ × Text)
up_to_fault = ok_prefix

-- whether there is a fault
abbrev pub has_fault : List ScannedText → Bool
has_fault = list_any is_err

-- the pieces that are to come
abbrev pub pieces_left : code.Cursor → List ScannedText
pieces_left c = pieces c.state (drop c.at c.text.now)

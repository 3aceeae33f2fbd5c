-- Where a cursor comes after a token. Private: nothing rests on believing it.
use Rattle.std.specs.Prelude.{◌≡◌, ◌≢◌, ◌+◌, ◌<◌, ◌≤◌}
use Rattle.promql_token.specs.declared.ids.TheConstants.{T_EOF}
use Rattle.promql_token.specs.declared.cursor.Cursor as code
use Rattle.promql_token.specs.declared.lexeme.Lexeme.{Lexeme}
use Rattle.promql_token.specs.Trivia.{IsPlaced}
use Rattle.promql_token.specs.TokenScanning.{after}

-- a cursor moves past a token, and stays before the end
pub record IsPast (x : Lexeme) (old new : code.Cursor) : Type 0 where
  pub text : new.text ≡ old.text
  pub at : x.id ≢ T_EOF → new.at ≡ x.start + x.len
  pub state : x.id ≢ T_EOF → new.state ≡ after old.state x.id
  pub placed : IsPlaced old.text.now x
  pub order : old.at ≤ x.start
  pub moves : x.id ≢ T_EOF → 0 < x.len

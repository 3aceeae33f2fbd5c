use Rattle.promql_token.proofs.cursors.SameTokens.{token_type_Decides, token_Decides}
use Rattle.promql_token.proofs.laws.equal_tokens.Goals as goal

pub returns : goal.returns
returns c = record { kinds = token_type_Decides; tokens = token_Decides }

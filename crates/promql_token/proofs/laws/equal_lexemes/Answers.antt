use Rattle.promql_token.proofs.cursors.SameTokens.{lexeme_Decides}
use Rattle.promql_token.proofs.laws.equal_lexemes.Goals as goal

pub returns : goal.returns
returns c = lexeme_Decides

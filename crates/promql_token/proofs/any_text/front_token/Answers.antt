use Rattle.std.proofs.Common.{sym}
use Rattle.promql_token.proofs.whole_texts.TokenLengths.{token_length}
use Rattle.promql_token.proofs.any_text.front_token.Goals as goal

pub returns-in-Ok-clause-within : goal.returns-in-Ok-clause-within
returns-in-Ok-clause-within c = token_length c.args.state c.args.z.now c.in-Ok.token.0 c.in-Ok.token.1 c.requires (sym c.in-Ok.ensures)

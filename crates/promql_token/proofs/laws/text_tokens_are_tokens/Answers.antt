use Rattle.promql_token.proofs.whole_texts.Boundaries.{placed}
use Rattle.promql_token.proofs.whole_texts.TextTokens.{text_tokens_front, text_tokens_whole}
use Rattle.promql_token.proofs.laws.text_tokens_are_tokens.Goals as goal

pub returns : goal.returns
returns c = record { whole = text_tokens_whole; front = text_tokens_front; places = placed }

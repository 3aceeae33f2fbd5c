use Rattle.std.proofs.Common.{arith}
use Rattle.promql_grammar.proofs.Listing.{has_any_tokens}
use Rattle.promql_grammar.proofs.tokens.has_tokens.Goals as goal

pub returns-in_err-lexeme : goal.returns-in_err-lexeme
returns-in_err-lexeme c = grind (arith, has_any_tokens)

pub returns : goal.returns
returns c = grind (arith, has_any_tokens)

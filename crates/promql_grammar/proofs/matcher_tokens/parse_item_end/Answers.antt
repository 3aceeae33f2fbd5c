use Rattle.std.proofs.Common.{arith}
use Rattle.promql_grammar.proofs.MatcherTokens.{comma_joins}
use Rattle.promql_grammar.proofs.matcher_tokens.parse_item_end.Goals as goal

pub returns-else-eat-clause-gives : goal.returns-else-eat-clause-gives
returns-else-eat-clause-gives c = grind (arith, comma_joins)

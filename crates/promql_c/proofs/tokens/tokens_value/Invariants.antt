use Rattle.std.proofs.Common.{◌≡◌, map, take}
use Rattle.serde_json.specs.View.{view}
use Rattle.promql_c.specs.TokensText.{token_value}
use Rattle.promql_c.proofs.tokens.tokens_value.Given as goal

abbrev pub invariant-loop-token : goal.invariant-loop-token
invariant-loop-token l = map view l.list.items ≡ map token_value (take l.token-index l.tokens)

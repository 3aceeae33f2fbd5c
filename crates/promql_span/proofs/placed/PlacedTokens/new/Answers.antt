use Rattle.std.proofs.Common.{◌∙◌, ap}
use Rattle.promql_span.specs.TokensLeft.{up_to_end}
use Rattle.promql_span.proofs.OrderedTokens.{placed_is}
use Rattle.promql_span.proofs.placed.PlacedTokens.new.Goals as goal

pub returns : goal.returns
returns c = ap up_to_end c.new.ensures ∙ placed_is c.args.text.now

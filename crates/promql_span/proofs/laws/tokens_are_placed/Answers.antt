use Rattle.promql_span.proofs.OrderedTokens.{tokens_fit}
use Rattle.promql_span.proofs.PlacedTexts.{pieces_placed, tokens_placed}
use Rattle.promql_span.proofs.laws.tokens_are_placed.Goals as goal

pub returns-clause-whole : goal.returns-clause-whole
returns-clause-whole c = tokens_placed

pub returns-clause-pieces : goal.returns-clause-pieces
returns-clause-pieces c = pieces_placed

pub returns-clause-few : goal.returns-clause-few
returns-clause-few c = tokens_fit

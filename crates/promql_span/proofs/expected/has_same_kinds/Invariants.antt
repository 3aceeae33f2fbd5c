use Rattle.std.proofs.Common.{filter, nat_lt}
use Rattle.promql_span.specs.ExpectedTokens.{symbols_before}
use Rattle.promql_span.specs.PlacedTokens.{symbols_at}
use Rattle.promql_span.specs.TokensBefore.{AreAlike, symbols_of_text}
use Rattle.promql_span.specs.TokensLeft.{placed_left}
use Rattle.promql_span.proofs.expected.has_same_kinds.Given as goal

-- where the tokens to come are alike, all are
abbrev pub invariant-loop-token : goal.invariant-loop-token
invariant-loop-token l =
    AreAlike (symbols_at l.text (filter (λ x. nat_lt x.start l.at) (placed_left l.token-iterator))) (symbols_at l.before (placed_left l.rest))
    → AreAlike (symbols_before l.text l.at) (symbols_of_text l.before)

use Rattle.std.proofs.Common.{◌≡◌, ℕ, length}
use Rattle.promql_span.specs.PlacedTokens.{end_of, placed_tokens}
use Rattle.promql_span.specs.SpanSteps.{first_from}
use Rattle.promql_span.specs.TokensLeft.{placed_left}
use Rattle.promql_span.proofs.OrderedTokens.{AreOrdered}
use Rattle.promql_span.proofs.places.token_from.Given as goal

-- the last token so far, with the tokens to come, gives the whole
abbrev pub invariant-loop-token : goal.invariant-loop-token
invariant-loop-token l =
    (goal.iterator-loop-token).can_next l.token-iterator ×
    (goal.iterator-loop-token).is_finite l.token-iterator ×
    ((at : ℕ) × AreOrdered (length l.text) at (placed_left l.token-iterator)) ×
    (first_from l.at l.last (placed_left l.token-iterator) ≡ first_from l.at (end_of l.text) (placed_tokens l.text))

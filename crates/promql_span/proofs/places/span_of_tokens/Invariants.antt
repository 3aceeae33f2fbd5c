use Rattle.std.proofs.Common.{◌≡◌, ℕ, ◌+◌, None, length}
use Rattle.promql_span.specs.PlacedTokens.{placed_tokens}
use Rattle.promql_span.specs.SpanSteps.{cover, in_range}
use Rattle.promql_span.specs.TokensLeft.{placed_left}
use Rattle.promql_span.proofs.OrderedTokens.{AreOrdered}
use Rattle.promql_span.proofs.places.span_of_tokens.Given as goal

-- the span so far, with the tokens to come, is the whole
abbrev pub invariant-loop-token : goal.invariant-loop-token
invariant-loop-token l =
    (goal.iterator-loop-token).can_next l.token-iterator ×
    (goal.iterator-loop-token).is_finite l.token-iterator ×
    ((at : ℕ) × AreOrdered (length l.text) at (placed_left l.token-iterator)) ×
    (l.index + length (placed_left l.token-iterator) ≡ length (placed_tokens l.text)) ×
    (cover l.found (in_range l.range l.index (placed_left l.token-iterator)) ≡ cover None (in_range l.range 0 (placed_tokens l.text)))

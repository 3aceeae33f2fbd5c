use Rattle.std.proofs.Common.{◌≡◌, ℕ, None, filter, length}
use Rattle.promql_span.specs.PlacedTokens.{placed_tokens}
use Rattle.promql_span.specs.SpanSteps.{begins_in, cover}
use Rattle.promql_span.specs.TokensLeft.{placed_left}
use Rattle.promql_span.proofs.OrderedTokens.{AreOrdered}
use Rattle.promql_span.proofs.places.span_inside.Given as goal

-- the span so far, with the tokens to come, is the whole
abbrev pub invariant-loop-token : goal.invariant-loop-token
invariant-loop-token l =
    (goal.iterator-loop-token).can_next l.token-iterator ×
    (goal.iterator-loop-token).is_finite l.token-iterator ×
    ((at : ℕ) × AreOrdered (length l.text) at (placed_left l.token-iterator)) ×
    (cover l.found (filter (begins_in l.part) (placed_left l.token-iterator)) ≡ cover None (filter (begins_in l.part) (placed_tokens l.text)))

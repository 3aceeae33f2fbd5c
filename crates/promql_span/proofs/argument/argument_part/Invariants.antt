use Rattle.std.proofs.Common.{ℕ, length}
use Rattle.promql_span.specs.TokensLeft.{placed_left}
use Rattle.promql_span.proofs.OrderedTokens.{AreOrdered}
use Rattle.promql_span.proofs.argument.argument_part.Given as goal

-- the tokens to come are in the text
abbrev pub invariant-loop-token : goal.invariant-loop-token
invariant-loop-token l =
    (goal.iterator-loop-token).can_next l.token-iterator ×
    (goal.iterator-loop-token).is_finite l.token-iterator ×
    ((at : ℕ) × AreOrdered (length l.text) at (placed_left l.token-iterator))

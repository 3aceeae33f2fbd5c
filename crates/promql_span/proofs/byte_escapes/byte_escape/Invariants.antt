use Rattle.std.proofs.Common.{◌≡◌, ℕ, length}
use Rattle.std.specs.Prelude.{slice_get}
use Rattle.std.specs.List.{filter_map}
use Rattle.promql_span.specs.ByteEscapes.{byte_escape, escape_in}
use Rattle.promql_span.specs.TokensLeft.{placed_left}
use Rattle.promql_span.proofs.OrderedTokens.{AreOrdered}
use Rattle.promql_span.proofs.byte_escapes.byte_escape.Given as goal

-- the first escape of the tokens to come is that of all
abbrev pub invariant-loop-token : goal.invariant-loop-token
invariant-loop-token l =
    (goal.iterator-loop-token).can_next l.token-iterator ×
    (goal.iterator-loop-token).is_finite l.token-iterator ×
    ((at : ℕ) × AreOrdered (length l.text) at (placed_left l.token-iterator)) ×
    (slice_get (filter_map (escape_in l.text) (placed_left l.token-iterator)) 0 ≡ byte_escape l.text)

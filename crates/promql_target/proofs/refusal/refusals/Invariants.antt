use Rattle.std.proofs.Common.{◌≡◌, ℕ, ◌++◌, drop, length, map}
use Rattle.promql_token.specs.Cursor.{tokens_left}
use Rattle.promql_span.specs.PlacedTokens.{placed_tokens}
use Rattle.promql_span.specs.TokensLeft.{placed_left}
use Rattle.promql_target.specs.Refusals.{kinds, refusal_at, refusals}
use Rattle.promql_target.proofs.refusal.refusals.Given as goal

abbrev pub decreases-loop-token : goal.decreases-loop-token
decreases-loop-token l = length (tokens_left l.tokens)

-- what was found, and what is found at the tokens to come, which have these places, is all
abbrev pub invariant-loop-token : goal.invariant-loop-token
invariant-loop-token l =
    (n : ℕ) × (l.found.items ++ map (refusal_at l.query) (kinds l.target n l.place (tokens_left l.tokens)) ≡ refusals l.target l.query)
    × (placed_left l.places ≡ drop n (placed_tokens l.query))

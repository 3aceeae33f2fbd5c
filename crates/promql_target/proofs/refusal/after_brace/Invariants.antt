use Rattle.std.proofs.Common.{◌≡◌, length}
use Rattle.promql_token.specs.Cursor.{tokens_left}
use Rattle.promql_target.specs.Refusals.{after_brace}
use Rattle.promql_target.proofs.refusal.after_brace.Given as goal

abbrev pub decreases-loop-id : goal.decreases-loop-id
decreases-loop-id l = length (tokens_left l.rest)

abbrev pub invariant-loop-id : goal.invariant-loop-id
invariant-loop-id l = after_brace (tokens_left l.rest) ≡ after_brace (tokens_left l.tokens)

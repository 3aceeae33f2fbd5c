use Rattle.std.proofs.Common.{◌≡◌, length}
use Rattle.promql_token.specs.Cursor.{tokens_left}
use Rattle.promql_target.specs.Refusals.{in_signs}
use Rattle.promql_target.proofs.refusal.in_signs.Given as goal

abbrev pub decreases-loop-operand : goal.decreases-loop-operand
decreases-loop-operand l = length (tokens_left l.after)

abbrev pub invariant-loop-operand : goal.invariant-loop-operand
invariant-loop-operand l =
    (in_signs (tokens_left l.operand) ≡ in_signs (tokens_left l.tokens))
    × (tokens_left l.after ≡ tokens_left l.operand)

use Rattle.std.proofs.Common.{◌≡◌, ◌+◌, ◌-◌, ◌≤◌, drop, length}
use Rattle.promql_token.specs.TextTokens as spec
use Rattle.promql_token.proofs.any_text.beyond_ascii.Given as goal

abbrev pub invariant-loop-end : goal.invariant-loop-end
invariant-loop-end l = (l.end + spec.beyond_ascii (drop l.end l.z) ≡ l.at + spec.beyond_ascii (drop l.at l.z)) × (l.at ≤ l.end) × (l.end ≤ length l.z)

abbrev pub decreases-loop-end : goal.decreases-loop-end
decreases-loop-end l = length l.z - l.end

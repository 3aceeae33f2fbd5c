use Rattle.std.proofs.Common.{◌≡◌, ◌-◌, ◌≤◌, length, drop, false}
use Rattle.promql_token.specs.TokenScanning as spec
use Rattle.promql_token.proofs.string.plain_end.Given as goal

abbrev pub invariant-loop-at : goal.invariant-loop-at
invariant-loop-at l = (spec.string_from l.quote false l.at (drop l.at l.z) ≡ spec.string_from l.quote false 1 (drop 1 l.z)) × (l.at ≤ length l.z)

abbrev pub decreases-loop-at : goal.decreases-loop-at
decreases-loop-at l = length l.z - l.at

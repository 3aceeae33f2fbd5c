use Rattle.std.proofs.Common.{◌≡◌, ◌+◌, length, drop, false}
use Rattle.promql_token.specs.TokenScanning as spec
use Rattle.promql_token.proofs.string.string.Given as goal

abbrev pub invariant-loop-rest : goal.invariant-loop-rest
invariant-loop-rest l = (spec.string_from l.quote l.escaped l.at l.rest ≡ spec.string_from l.quote false 1 (drop 1 l.z)) × (l.at + length l.rest ≡ length l.z)

abbrev pub decreases-loop-rest : goal.decreases-loop-rest
decreases-loop-rest l = length l.rest

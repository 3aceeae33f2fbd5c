use Rattle.std.proofs.Common.{◌≡◌, length}
use Rattle.promql_token.specs.TokenScanning as spec
use Rattle.promql_token.proofs.numeral.are_parts.Given as goal

abbrev pub invariant-loop-rest : goal.invariant-loop-rest
invariant-loop-rest l = spec.parts_from 0 l.rest ≡ spec.parts_from 0 l.z

abbrev pub decreases-loop-rest : goal.decreases-loop-rest
decreases-loop-rest l = length l.rest

use Rattle.std.proofs.Common.{◌≡◌, ◌+◌, ◌<◌, ◌^◌, false, length}
use Rattle.promql_span.specs.ByteEscapes as spec
use Rattle.promql_span.proofs.byte_escapes.first_escape.Given as goal

abbrev pub decreases-loop-rest : goal.decreases-loop-rest
decreases-loop-rest l = length l.rest

-- the first escape of what is left is that of the whole
abbrev pub invariant-loop-rest : goal.invariant-loop-rest
invariant-loop-rest l =
    (l.start + length l.rest < 2 ^ 64) ×
    (spec.first_escape l.escaped l.start l.rest ≡ spec.first_escape false l.at l.text)

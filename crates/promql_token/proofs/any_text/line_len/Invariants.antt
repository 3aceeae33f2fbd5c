use Rattle.std.proofs.Common.{◌≡◌, ◌+◌, ◌-◌, ◌≤◌, drop, length}
use Rattle.promql_token.specs.TextTokens as spec
use Rattle.promql_token.proofs.any_text.line_len.Given as goal

abbrev pub invariant-loop-len : goal.invariant-loop-len
invariant-loop-len l = (l.len + spec.line_len (drop l.len l.z) ≡ spec.line_len l.z) × (l.len ≤ length l.z)

abbrev pub decreases-loop-len : goal.decreases-loop-len
decreases-loop-len l = length l.z - l.len

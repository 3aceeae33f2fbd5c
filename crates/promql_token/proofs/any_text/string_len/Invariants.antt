use Rattle.std.proofs.Common.{◌≡◌, ◌+◌, ◌-◌, ◌≤◌, ◌<◌, false, drop, length}
use Rattle.promql_token.specs.TextTokens as spec
use Rattle.promql_token.specs.Vocabulary.{next}
use Rattle.promql_token.proofs.any_text.string_len.Given as goal

abbrev pub invariant-loop-at : goal.invariant-loop-at
invariant-loop-at l = (l.at + spec.past_quote l.quote l.taken (drop l.at l.z) ≡ 1 + spec.past_quote (next l.z) false (drop 1 l.z)) × (0 < l.at) × (l.at ≤ length l.z)

abbrev pub decreases-loop-at : goal.decreases-loop-at
decreases-loop-at l = length l.z - l.at

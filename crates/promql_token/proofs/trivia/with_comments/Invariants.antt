use Rattle.std.proofs.Common.{◌≡◌, ◌+◌, drop, false}
use Rattle.promql_token.specs.TokenScanning as spec
use Rattle.promql_token.proofs.trivia.with_comments.Given as goal

abbrev pub invariant-loop-n : goal.invariant-loop-n
invariant-loop-n l = l.n + spec.trivia_from l.in_comment (drop l.n l.z) ≡ spec.trivia_from false l.z

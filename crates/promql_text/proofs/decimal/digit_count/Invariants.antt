use Rattle.std.proofs.Common.{◌≡◌, ◌≤◌, ◌+◌}
use Rattle.promql_text.specs.Numbers.{digit_count}
use Rattle.promql_text.proofs.decimal.digit_count.Given as goal

abbrev pub invariant-loop-rest : goal.invariant-loop-rest
invariant-loop-rest l = (l.count + digit_count l.rest ≡ 1 + digit_count l.fn.n) × (l.rest ≤ l.fn.n)

abbrev pub decreases-loop-rest : goal.decreases-loop-rest
decreases-loop-rest l = l.rest

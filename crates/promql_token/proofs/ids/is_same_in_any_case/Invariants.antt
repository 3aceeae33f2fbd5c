use Rattle.std.proofs.Common.{◌≡◌, ◌-◌, ◌≤◌, drop, length}
use Rattle.std.specs.Str.{str_eq_ignore_ascii_case}
use Rattle.promql_token.proofs.ids.is_same_in_any_case.Given as goal

abbrev pub invariant-loop-at : goal.invariant-loop-at
invariant-loop-at l = (str_eq_ignore_ascii_case (drop l.at l.a) (drop l.at l.b) ≡ str_eq_ignore_ascii_case l.a l.b) × (l.at ≤ length l.a)

abbrev pub decreases-loop-at : goal.decreases-loop-at
decreases-loop-at l = length l.a - l.at

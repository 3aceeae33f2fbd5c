use Rattle.std.proofs.Common.{◌≡◌, ◌-◌, ◌≤◌, length}
use Rattle.promql_token.specs.Classes as spec
use Rattle.promql_token.specs.declared.class.Class.TheVariants as class
use Rattle.promql_token.proofs.class.end_of_name.Given as goal

abbrev pub invariant-loop-end : goal.invariant-loop-end
invariant-loop-end l = (spec.end_of_run class.Name l.z l.end ≡ spec.end_of_run class.Name l.z l.at) × (l.at ≤ l.end) × (l.end ≤ length l.z)

abbrev pub decreases-loop-end : goal.decreases-loop-end
decreases-loop-end l = length l.z - l.end

use Rattle.std.proofs.Common.{◌≡◌, take}
use Rattle.promql_kind.proofs.function.copy_types.Given as goal

abbrev pub invariant-loop-kind : goal.invariant-loop-kind
invariant-loop-kind l = l.copy.items ≡ take l.kind-index l.types

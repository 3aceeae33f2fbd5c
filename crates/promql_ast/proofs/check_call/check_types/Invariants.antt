use Rattle.std.proofs.Common.{◌≡◌, ◌<◌, drop, length}
use Rattle.promql_ast.specs.View.{trees_of}
use Rattle.promql_ast.specs.check.CallChecks.{types_fault}
use Rattle.promql_ast.proofs.check_call.check_types.Given as goal

abbrev pub invariant-loop-arg : goal.invariant-loop-arg
invariant-loop-arg l =
    (types_fault l.name l.types (trees_of l.args) ≡ types_fault l.name (drop l.at l.types) (trees_of (drop l.arg-index l.args)))
    × (l.at < length l.types)

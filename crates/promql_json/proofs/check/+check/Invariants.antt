use Rattle.std.proofs.Common.{◌≡◌, drop}
use Rattle.promql_ast.specs.View.{trees_of}
use Rattle.promql_json.specs.JsonFaults.{args_fault}
use Rattle.promql_json.proofs.check.+check.Given as goal

abbrev pub invariant-check_args-loop-arg : goal.invariant-check_args-loop-arg
invariant-check_args-loop-arg l = args_fault (trees_of (drop l.arg-index l.args)) ≡ args_fault (trees_of l.args)

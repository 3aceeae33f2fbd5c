use Rattle.std.proofs.Common.{◌≡◌, drop}
use Rattle.promql_ast.specs.View.{trees_of}
use Rattle.promql_when.specs.Last.{all_constant}
use Rattle.promql_when.proofs.last.+constant.Given as goal

abbrev pub invariant-args_are_constant-loop-arg : goal.invariant-args_are_constant-loop-arg
invariant-args_are_constant-loop-arg l = all_constant (trees_of (drop l.arg-index l.args)) ≡ all_constant (trees_of l.args)

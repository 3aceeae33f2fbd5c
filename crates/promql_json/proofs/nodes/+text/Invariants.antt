use Rattle.std.proofs.Common.{◌≡◌, ◌++◌, drop, None}
use Rattle.promql_ast.specs.View.{trees_of}
use Rattle.promql_json.specs.JsonFaults.{args_fault}
use Rattle.promql_json.specs.JsonTokens.{rest_of_args}
use Rattle.promql_json.proofs.nodes.+text.Given as goal

abbrev pub invariant-write_args-loop-arg : goal.invariant-write_args-loop-arg
invariant-write_args-loop-arg l = record {
  written : l.out ++ rest_of_args (trees_of (drop l.arg-index l.args)) ≡ l.initial.out ++ rest_of_args (trees_of l.args);
  fits : args_fault (trees_of (drop l.arg-index l.args)) ≡ None;
}

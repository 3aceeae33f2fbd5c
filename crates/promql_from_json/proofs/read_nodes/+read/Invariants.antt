use Rattle.std.proofs.Common.{◌≡◌, ◌+◌, ◌*◌, None, map, take}
use Rattle.serde_json.specs.View.{view}
use Rattle.promql_ast.specs.View.{tree_of, trees_of}
use Rattle.promql_json.specs.Json.{json_value}
use Rattle.promql_json.specs.JsonFaults.{args_fault}
use Rattle.promql_from_json.proofs.read_nodes.+read.Given as goal

abbrev pub decreases-read_expr : goal.decreases-read_expr
decreases-read_expr a = 6 * a.depth

abbrev pub decreases-read_child : goal.decreases-read_child
decreases-read_child a = 6 * a.depth + 1

abbrev pub decreases-read_arg_list : goal.decreases-read_arg_list
decreases-read_arg_list a = 6 * a.depth + 1

abbrev pub decreases-read_args : goal.decreases-read_args
decreases-read_args a = 6 * a.depth + 2

abbrev pub decreases-read_param : goal.decreases-read_param
decreases-read_param a = 6 * a.depth + 2

abbrev pub decreases-read_aggregate : goal.decreases-read_aggregate
decreases-read_aggregate a = 6 * a.depth + 3

abbrev pub decreases-read_unary : goal.decreases-read_unary
decreases-read_unary a = 6 * a.depth + 3

abbrev pub decreases-read_binary : goal.decreases-read_binary
decreases-read_binary a = 6 * a.depth + 3

abbrev pub decreases-read_paren : goal.decreases-read_paren
decreases-read_paren a = 6 * a.depth + 3

abbrev pub decreases-read_subquery : goal.decreases-read_subquery
decreases-read_subquery a = 6 * a.depth + 3

abbrev pub decreases-read_call : goal.decreases-read_call
decreases-read_call a = 6 * a.depth + 3

abbrev pub decreases-read_node : goal.decreases-read_node
decreases-read_node a = 6 * a.depth + 4

abbrev pub invariant-read_arg_list-loop-i : goal.invariant-read_arg_list-loop-i
invariant-read_arg_list-loop-i l = record {
  values : map view (take l.i l.list) ≡ map (λ b. json_value (tree_of b.value)) l.args.items;
  fits : args_fault (trees_of l.args.items) ≡ None;
}

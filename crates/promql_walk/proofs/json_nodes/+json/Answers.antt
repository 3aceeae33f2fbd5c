use Rattle.std.proofs.Common.{map, take_all, sym, ap, ◌∙◌}
use Rattle.serde_json.specs.View.{items_of}
use Rattle.promql_ast.specs.View.{tree_of}
use Rattle.promql_json.specs.Json.{json_value}
use Rattle.promql_walk.proofs.JsonLists.{args_items_of}
use Rattle.promql_walk.proofs.json_nodes.+json.Goals as goal

pub args_json-returns-clause-ok : goal.args_json-returns-clause-ok
args_json-returns-clause-ok t c =
    ap items_of c.loop-arg.invariant.values
    ∙ ap (λ bs. items_of (map (λ b. json_value (tree_of b.value)) bs)) (take_all c.loop-arg.arg-index c.args.args.now c.loop-arg-test.false)
    ∙ sym (args_items_of c.args.args.now)

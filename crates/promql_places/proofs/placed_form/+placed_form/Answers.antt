use Rattle.std.proofs.Common.{◌+◌, ◌++◌, ap, drop, map, sym, ◌∙◌}
use Rattle.serde_json.specs.View.{view}
use Rattle.promql_ast.proofs.nodes.ChangedLists.{on_ok}
use Rattle.promql_ast.proofs.nodes.NodeParts.{tree_of_call}
use Rattle.promql_ast.specs.View.{option_tree, tree_of, trees_of}
use Rattle.promql_json.specs.JsonFaults.{json_fault}
use Rattle.promql_json.specs.JsonParts.{list}
use Rattle.promql_places.specs.PlacedForms.{placed_args}
use Rattle.promql_places.specs.PlacedFormSteps.{args_count, inner_count, left, node_count, param_count, placed_value}
use Rattle.promql_places.proofs.PlacedFormSteps.{after_two, args_counted, args_end, args_faults, args_rest, args_values, array_of, param_counted, sides_counted}
use Rattle.promql_places.proofs.placed_form.+placed_form.Goals as goal

pub put_aggregated-returns-clause-rest : goal.put_aggregated-returns-clause-rest
put_aggregated-returns-clause-rest t c =
    let node = c.args.node.now in let all = left c.args.nodes.now in let after = left c.param_value.new.nodes in
    on_ok c.put_node.result _ _
    (λ rest. after_two (param_count (option_tree node.param)) (node_count (tree_of node.expr.value)) all after (left c.put_node.new.nodes)
    c.in_ok-param.ensures.rest (rest ∙ ap (λ x. drop (node_count (tree_of x)) after) c.deref.ensures)
    ∙ ap (λ n. drop n all) (sym (param_counted (option_tree node.param) (tree_of node.expr.value))))
    c.put_node.ensures.rest

pub put_sides-returns-clause-rest : goal.put_sides-returns-clause-rest
put_sides-returns-clause-rest t c =
    let node = c.args.node.now in let all = left c.args.nodes.now in let after = left c.put_node.new.nodes in
    on_ok c.put_node-2.result _ _
    (λ rest. after_two (node_count (tree_of node.lhs.value)) (node_count (tree_of node.rhs.value)) all after (left c.put_node-2.new.nodes)
    (c.in_ok-put_node.ensures.rest ∙ ap (λ x. drop (node_count (tree_of x)) all) c.deref.ensures)
    (rest ∙ ap (λ x. drop (node_count (tree_of x)) after) c.deref-2.ensures)
    ∙ ap (λ n. drop n all) (sym (sides_counted (tree_of node.lhs.value) (tree_of node.rhs.value))))
    c.put_node-2.ensures.rest

pub put_inside-returns-in-Call-clause-rest : goal.put_inside-returns-in-Call-clause-rest
put_inside-returns-in-Call-clause-rest t c =
    let args = c.in-Call.e.args.args.items in let all = left c.args.nodes.now in
    let counted = ap (λ xs. args_count (trees_of xs)) c.as_slice.ensures.value ∙ sym (args_counted (trees_of args))
    ∙ ap inner_count (sym (ap tree_of c.in-Call.is ∙ tree_of_call c.in-Call.e)) in
    on_ok c.put_args.result _ _ (λ rest. rest ∙ ap (λ n. drop n all) counted) c.put_args.ensures.rest

pub args_value-loop-arg-preserved : goal.args_value-loop-arg-preserved
args_value-loop-arg-preserved t c =
    let args = c.args.args.now in let i = c.loop-arg.arg-index in let b = c.arg-item.result in
    let now = left c.loop-arg.nodes in let next = left c.node_value.new.nodes in let v = c.in_ok-node_value.field-0 in
    let made = c.in_ok-node_value.ensures.ok ∙ ap (λ x. placed_value (tree_of x) now) c.deref.ensures in
    let rest = c.in_ok-node_value.ensures.rest ∙ ap (λ x. drop (node_count (tree_of x)) now) c.deref.ensures in
    let fits = ap (λ x. json_fault (tree_of x)) (sym c.deref.ensures) ∙ c.in_ok-node_value.ensures.fits in
    record {
      values = ap (λ l. map view l ++ placed_args (trees_of (drop (i + 1) args)) next) c.in_ok-push.ensures.items
          ∙ args_values args i b c.loop-arg.list.items v now next _ c.loop-arg-test.true c.arg-item.is made rest c.loop-arg.invariant.values;
      rest = args_rest args i b now next _ c.loop-arg-test.true c.arg-item.is rest c.loop-arg.invariant.rest;
      faults = args_faults args i b _ c.loop-arg-test.true c.arg-item.is fits c.loop-arg.invariant.faults;
    }

pub args_value-returns-clause-ok : goal.args_value-returns-clause-ok
args_value-returns-clause-ok t c =
    array_of c.loop-arg.list
    ∙ ap list (args_end c.args.args.now c.loop-arg.arg-index c.loop-arg.list.items (left c.loop-arg.nodes) _ c.loop-arg-test.false c.loop-arg.invariant.values)

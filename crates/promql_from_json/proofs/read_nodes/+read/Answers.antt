use Rattle.promql_from_json.proofs.ReadableTrees.{aggregator, operator}
use Rattle.promql_from_json.specs.FormMisfits.{by_row, expected_at, function, list_of, node, node_named, one, or_null, word, too_high, untyped, MisfitAt}
use Rattle.serde_json.specs.Find.{get_member}
use Rattle.promql_from_json.proofs.MembersInOrder.{item_there}
use Rattle.std.proofs.Common.{ℕ, zero, suc, ◌-◌, ◌+◌, ◌≡◌, ◌∙◌, None, ap, sym, map, take_all, codes, arith, refl, Some, rules, [], slice_get, subst}
use Rattle.std.proofs.lemmas.Grind.{common_steps}
use Rattle.serde_json.specs.View.{items_of, members_view, view}
use Rattle.promql_ast.specs.View.{tree_of, trees_of}
use Rattle.promql_json.specs.JsonFaults.{args_fault, json_fault}
use Rattle.promql_from_json.proofs.NoNodes.{no_node, no_other_node}
use Rattle.promql_from_json.proofs.ReadForms.{err_within, items_of_args, no_args, one_more_fits, rest_of, same_members, value_of, differ}
use Rattle.promql_from_json.specs.declared.from_error.Expected.TheVariants.{Aggregator, Flag, List as ListThere, LowTree, Minus, Object as ObjectThere, Operator}
use Rattle.promql_from_json.proofs.ErrorPlaces.{one_here, nullable, in_typed, tree_type, typed_as, matching_asked, same_type, untyped_node, no_row}
use Rattle.serde_json.specs.declared.value.Value.{the_lemmas}
use Rattle.std.proofs.lemmas.Result.{IfErr-weaker}
use Rattle.promql_from_json.specs.MembersLeft.{IsIn}
use Rattle.serde_json.specs.Data.{object}
use Rattle.promql_from_json.proofs.read_nodes.+read.Goals as goal

pub read_arg_list-loop-i-preserved : goal.read_arg_list-loop-i-preserved
read_arg_list-loop-i-preserved t c =
    let one : json_fault (tree_of c.in_ok-new-in-Ok.field-0.value) ≡ None = ap (λ e. json_fault (tree_of e)) c.in_ok-new-in-Ok.ensures.ok ∙ c.in-Ok.ensures.fits in
    record {
      values = grind (arith, common_steps);
      fits = ap (λ bs. args_fault (trees_of bs)) c.in_ok-push-in-Ok.ensures.items ∙ one_more_fits c.loop-i.args.items c.in_ok-new-in-Ok.field-0 c.loop-i.invariant.fits one;
    }

pub read_arg_list-returns-clause-ok : goal.read_arg_list-returns-clause-ok
read_arg_list-returns-clause-ok t c =
    ap (λ xs. items_of (map view xs)) (sym (take_all c.loop-i.i c.args.list.now c.loop-i-test.false))
    ∙ ap items_of c.loop-i.invariant.values
    ∙ items_of_args c.loop-i.args.items

pub read_subquery-returns-in_err-parts-clause-err : goal.read_subquery-returns-in_err-parts-clause-err
read_subquery-returns-in_err-parts-clause-err t c =
    err_within _ c.from_residual.result c.in_err-parts.field-0.0 c.from_residual.ensures.1
    (λ other tree offset at range step fine low h. c.in_err-parts.ensures.err other _ offset at range step fine (same_members _ _ h))

pub read_arg_list-returns-in-Err-clause-err : goal.read_arg_list-returns-in-Err-clause-err
read_arg_list-returns-in-Err-clause-err t c = λ other ts fine h.
    no_args c.args.depth view c.args.list.now ts c.loop-i.i c.index-list-i.result c.loop-i-test.true c.index-list-i.is
    (c.in-Err.ensures.err (λ e. other (c.inside_item.ensures.memory e))) fine h

pub read_call-returns-in_err-args-clause-err : goal.read_call-returns-in_err-args-clause-err
read_call-returns-in_err-args-clause-err t c =
    err_within _ c.from_residual.result c.in_err-args.field-0.0 c.from_residual.ensures.1
    (λ other f ts named fine h. c.in_err-args.ensures.err other _ _ _ _ (ap members_view c.new-fields.ensures.all ∙ same_members _ _ h))

pub read_call-returns-in_err-end_of_node-clause-err : goal.read_call-returns-in_err-end_of_node-clause-err
read_call-returns-in_err-end_of_node-clause-err t c =
    err_within _ c.from_residual-in_err-end_of_node.result c.in_err-end_of_node.field-0.0 c.from_residual-in_err-end_of_node.ensures.1
    (λ other f ts named fine h.
    let same = sym c.in_ok-args.ensures.ok ∙ ap members_view c.new-fields.ensures.all ∙ same_members _ _ h in
    c.in_err-end_of_node.ensures.err other (ap (λ ms. rest_of (rest_of (rest_of ms))) same) (ap (λ ms. value_of (rest_of (rest_of ms))) same))

pub read_call-returns-in-Err-clause-err : goal.read_call-returns-in-Err-clause-err
read_call-returns-in-Err-clause-err t c = λ other f ts named fine h.
    let same = sym c.in_ok-args.ensures.ok ∙ ap members_view c.new-fields.ensures.all ∙ same_members _ _ h in
    c.in-Err.ensures.err (λ e. other (c.inside.ensures.memory e)) f named (ap (λ ms. value_of (rest_of ms)) same)

pub read_call-returns-in-Err-read_args-clause-err : goal.read_call-returns-in-Err-read_args-clause-err
read_call-returns-in-Err-read_args-clause-err t c = λ other f ts named fine h.
    let same = sym c.in_ok-args.ensures.ok ∙ ap members_view c.new-fields.ensures.all ∙ same_members _ _ h in
    c.in-Err-read_args.ensures.err (λ e. other (c.inside-in-Err-read_args.ensures.memory e)) ts fine (ap value_of same)

pub read_arg_list-returns-in-Err-clause-place : goal.read_arg_list-returns-in-Err-clause-place
read_arg_list-returns-in-Err-clause-place t c =
    c.inside_item.ensures.place ListThere (node c.args.depth) _ _
    (item_there c.args.list.now c.loop-i.i c.index-list-i.result c.loop-i-test.true c.index-list-i.is) c.in-Err.ensures.place

pub read_child-returns-in-Err-clause-place : goal.read_child-returns-in-Err-clause-place
read_child-returns-in-Err-clause-place t c = λ f g d asks has through. c.inside.ensures.place f g d _ asks has (through _ c.in-Err.ensures.place)

pub read_param-returns-in_err-read_child-in_default-clause-place : goal.read_param-returns-in_err-read_child-in_default-clause-place
read_param-returns-in_err-read_child-in_default-clause-place t c =
    err_within _ c.from_residual.result c.in_err-read_child-in_default.field-0.0 c.from_residual.ensures.1
    (λ d has. c.in_err-read_child-in_default.ensures.place (node_named (codes "aggregation") c.args.depth) (or_null (node c.args.depth)) d (by_row (node_named (codes "aggregation") c.args.depth) (or_null (node c.args.depth)) d (codes "param") refl) has
    (λ e. nullable (node c.args.depth) _ e (search (rules, the_lemmas, c.in_default.not-Null))))

pub read_aggregate-returns-in_err-parts-clause-place : goal.read_aggregate-returns-in_err-parts-clause-place
read_aggregate-returns-in_err-parts-clause-place t c =
    err_within _ c.from_residual.result c.in_err-parts.field-0.0 c.from_residual.ensures.1
    (λ is. c.in_err-parts.ensures.place c.args.depth is)

pub read_aggregate-returns-in-Err-clause-place : goal.read_aggregate-returns-in-Err-clause-place
read_aggregate-returns-in-Err-clause-place t c = λ is. c.inside.ensures.place (node_named (codes "aggregation") c.args.depth) (word Aggregator) _ _ (by_row (node_named (codes "aggregation") c.args.depth) (word Aggregator) _ (codes "op") refl) (ap (get_member (codes "op")) c.in_ok-parts.ensures.ok)
    (c.in-Err.ensures.place (λ op is. c.in-Err.ensures.err op (aggregator op is)))

pub read_aggregate-returns-in_err-modifier-clause-place : goal.read_aggregate-returns-in_err-modifier-clause-place
read_aggregate-returns-in_err-modifier-clause-place t c =
    err_within _ c.from_residual-in_err-modifier.result c.in_err-modifier.field-0.0 c.from_residual-in_err-modifier.ensures.1
    (λ is. c.in_err-modifier.ensures.place c.args.depth _ (ap (get_member (codes "grouping")) c.in_ok-parts.ensures.ok) (ap (get_member (codes "without")) c.in_ok-parts.ensures.ok))

pub read_aggregate-returns-in_err-param-clause-place : goal.read_aggregate-returns-in_err-param-clause-place
read_aggregate-returns-in_err-param-clause-place t c =
    err_within _ c.from_residual-in_err-param.result c.in_err-param.field-0.0 c.from_residual-in_err-param.ensures.1
    (λ is. c.in_err-param.ensures.place _ (ap (get_member (codes "param")) c.in_ok-parts.ensures.ok))

pub read_aggregate-returns-in_err-expr-clause-place : goal.read_aggregate-returns-in_err-expr-clause-place
read_aggregate-returns-in_err-expr-clause-place t c =
    err_within _ c.from_residual-in_err-expr.result c.in_err-expr.field-0.0 c.from_residual-in_err-expr.ensures.1
    (λ is. c.in_err-expr.ensures.place (node_named (codes "aggregation") c.args.depth) (node c.args.depth) _ (by_row (node_named (codes "aggregation") c.args.depth) (node c.args.depth) _ (codes "expr") refl) (ap (get_member (codes "expr")) c.in_ok-parts.ensures.ok) (λ e h. h))

pub read_unary-returns-in_err-expr-clause-place : goal.read_unary-returns-in_err-expr-clause-place
read_unary-returns-in_err-expr-clause-place t c =
    err_within _ c.from_residual.result c.in_err-expr.field-0.0 c.from_residual.ensures.1
    (λ is. c.in_err-expr.ensures.place (node_named (codes "unaryExpr") c.args.depth) _ (c.new-fields.ensures.left (node_named (codes "unaryExpr") c.args.depth) (codes "expr") refl) refl)

pub read_unary-returns-in_err-end_of_node-clause-place : goal.read_unary-returns-in_err-end_of_node-clause-place
read_unary-returns-in_err-end_of_node-clause-place t c =
    err_within _ c.from_residual-in_err-end_of_node.result c.in_err-end_of_node.field-0.0 c.from_residual-in_err-end_of_node.ensures.1
    (λ is. c.in_err-end_of_node.ensures.place (node_named (codes "unaryExpr") c.args.depth) _ ((c.in_ok-expr.ensures.left (node_named (codes "unaryExpr") c.args.depth) _ (c.new-fields.ensures.left (node_named (codes "unaryExpr") c.args.depth) (codes "expr") refl) refl).3 None refl) (same_type _ _ _ (c.in_ok-expr.ensures.left (node_named (codes "unaryExpr") c.args.depth) _ (c.new-fields.ensures.left (node_named (codes "unaryExpr") c.args.depth) (codes "expr") refl) refl).2 is))

pub read_unary-returns-in-Err-clause-place : goal.read_unary-returns-in-Err-clause-place
read_unary-returns-in-Err-clause-place t c = λ is. c.inside.ensures.place (node_named (codes "unaryExpr") c.args.depth) (one Minus) _ _ (by_row (node_named (codes "unaryExpr") c.args.depth) (one Minus) _ (codes "op") refl) (c.in_ok-expr.ensures.left (node_named (codes "unaryExpr") c.args.depth) _ (c.new-fields.ensures.left (node_named (codes "unaryExpr") c.args.depth) (codes "expr") refl) refl).1 (c.in-Err.ensures.place (one Minus) (one_here Minus _ c.in-Err.ensures.err))

pub read_unary-returns-in_err-expr-2-clause-place : goal.read_unary-returns-in_err-expr-2-clause-place
read_unary-returns-in_err-expr-2-clause-place t c =
    err_within _ c.from_residual-in_err-expr-2.result c.in_err-expr-2.field-0.0 c.from_residual-in_err-expr-2.ensures.1
    (λ is. c.in_err-expr-2.ensures.place (node_named (codes "unaryExpr") c.args.depth) (node c.args.depth) _ (by_row (node_named (codes "unaryExpr") c.args.depth) (node c.args.depth) _ (codes "expr") refl) (c.in_ok-expr.ensures.left (node_named (codes "unaryExpr") c.args.depth) _ (c.new-fields.ensures.left (node_named (codes "unaryExpr") c.args.depth) (codes "expr") refl) refl).0 (λ e h. h))

pub read_binary-returns-in_err-parts-clause-place : goal.read_binary-returns-in_err-parts-clause-place
read_binary-returns-in_err-parts-clause-place t c =
    err_within _ c.from_residual.result c.in_err-parts.field-0.0 c.from_residual.ensures.1
    (λ is. c.in_err-parts.ensures.place c.args.depth is)

pub read_binary-returns-in-Err-clause-place : goal.read_binary-returns-in-Err-clause-place
read_binary-returns-in-Err-clause-place t c = λ is. c.inside.ensures.place (node_named (codes "binaryExpr") c.args.depth) (one Flag) _ _ (by_row (node_named (codes "binaryExpr") c.args.depth) (one Flag) _ (codes "bool") refl) (ap (get_member (codes "bool")) c.in_ok-parts.ensures.ok) c.in-Err.ensures.place

pub read_binary-returns-in-Err-read_id-clause-place : goal.read_binary-returns-in-Err-read_id-clause-place
read_binary-returns-in-Err-read_id-clause-place t c = λ is. c.inside-in-Err-read_id.ensures.place (node_named (codes "binaryExpr") c.args.depth) (word Operator) _ _ (by_row (node_named (codes "binaryExpr") c.args.depth) (word Operator) _ (codes "op") refl) (ap (get_member (codes "op")) c.in_ok-parts.ensures.ok)
    (c.in-Err-read_id.ensures.place (λ op is. c.in-Err-read_id.ensures.err op (operator op is)))

pub read_binary-returns-in-Err-read_matching-clause-place : goal.read_binary-returns-in-Err-read_matching-clause-place
read_binary-returns-in-Err-read_matching-clause-place t c = λ is. c.inside-in-Err-read_matching.ensures.place (node_named (codes "binaryExpr") c.args.depth) _ _ _ (matching_asked c.args.depth _ _ ((ap (get_member (codes "bool")) c.in_ok-parts.ensures.ok) ∙ ap Some c.in-Ok.ensures.ok)) (ap (get_member (codes "matching")) c.in_ok-parts.ensures.ok) c.in-Err-read_matching.ensures.place

pub read_binary-returns-in_err-lhs-clause-place : goal.read_binary-returns-in_err-lhs-clause-place
read_binary-returns-in_err-lhs-clause-place t c =
    err_within _ c.from_residual-in_err-lhs.result c.in_err-lhs.field-0.0 c.from_residual-in_err-lhs.ensures.1
    (λ is. c.in_err-lhs.ensures.place (node_named (codes "binaryExpr") c.args.depth) (node c.args.depth) _ (by_row (node_named (codes "binaryExpr") c.args.depth) (node c.args.depth) _ (codes "lhs") refl) (ap (get_member (codes "lhs")) c.in_ok-parts.ensures.ok) (λ e h. h))

pub read_binary-returns-in_err-rhs-clause-place : goal.read_binary-returns-in_err-rhs-clause-place
read_binary-returns-in_err-rhs-clause-place t c =
    err_within _ c.from_residual-in_err-rhs.result c.in_err-rhs.field-0.0 c.from_residual-in_err-rhs.ensures.1
    (λ is. c.in_err-rhs.ensures.place (node_named (codes "binaryExpr") c.args.depth) (node c.args.depth) _ (by_row (node_named (codes "binaryExpr") c.args.depth) (node c.args.depth) _ (codes "rhs") refl) (ap (get_member (codes "rhs")) c.in_ok-parts.ensures.ok) (λ e h. h))

pub read_paren-returns-in_err-expr-clause-place : goal.read_paren-returns-in_err-expr-clause-place
read_paren-returns-in_err-expr-clause-place t c =
    err_within _ c.from_residual.result c.in_err-expr.field-0.0 c.from_residual.ensures.1
    (λ is. c.in_err-expr.ensures.place (node_named (codes "parenExpr") c.args.depth) _ (c.new-fields.ensures.left (node_named (codes "parenExpr") c.args.depth) (codes "expr") refl) refl)

pub read_paren-returns-in_err-end_of_node-clause-place : goal.read_paren-returns-in_err-end_of_node-clause-place
read_paren-returns-in_err-end_of_node-clause-place t c =
    err_within _ c.from_residual-in_err-end_of_node.result c.in_err-end_of_node.field-0.0 c.from_residual-in_err-end_of_node.ensures.1
    (λ is. c.in_err-end_of_node.ensures.place (node_named (codes "parenExpr") c.args.depth) _ ((c.in_ok-expr.ensures.left (node_named (codes "parenExpr") c.args.depth) _ (c.new-fields.ensures.left (node_named (codes "parenExpr") c.args.depth) (codes "expr") refl) refl).2 None refl) (same_type _ _ _ (c.in_ok-expr.ensures.left (node_named (codes "parenExpr") c.args.depth) _ (c.new-fields.ensures.left (node_named (codes "parenExpr") c.args.depth) (codes "expr") refl) refl).1 is))

pub read_paren-returns-in_err-expr-2-clause-place : goal.read_paren-returns-in_err-expr-2-clause-place
read_paren-returns-in_err-expr-2-clause-place t c =
    err_within _ c.from_residual-in_err-expr-2.result c.in_err-expr-2.field-0.0 c.from_residual-in_err-expr-2.ensures.1
    (λ is. c.in_err-expr-2.ensures.place (node_named (codes "parenExpr") c.args.depth) (node c.args.depth) _ (by_row (node_named (codes "parenExpr") c.args.depth) (node c.args.depth) _ (codes "expr") refl) (c.in_ok-expr.ensures.left (node_named (codes "parenExpr") c.args.depth) _ (c.new-fields.ensures.left (node_named (codes "parenExpr") c.args.depth) (codes "expr") refl) refl).0 (λ e h. h))

pub read_subquery-returns-in_err-parts-clause-place : goal.read_subquery-returns-in_err-parts-clause-place
read_subquery-returns-in_err-parts-clause-place t c =
    err_within _ c.from_residual.result c.in_err-parts.field-0.0 c.from_residual.ensures.1
    (λ is. c.in_err-parts.ensures.place c.args.depth is)

pub read_subquery-returns-in_err-expr-clause-place : goal.read_subquery-returns-in_err-expr-clause-place
read_subquery-returns-in_err-expr-clause-place t c =
    err_within _ c.from_residual-in_err-expr.result c.in_err-expr.field-0.0 c.from_residual-in_err-expr.ensures.1
    (λ is. c.in_err-expr.ensures.place (node_named (codes "subquery") c.args.depth) (node c.args.depth) _ (by_row (node_named (codes "subquery") c.args.depth) (node c.args.depth) _ (codes "expr") refl) (ap (get_member (codes "expr")) c.in_ok-parts.ensures.ok) (λ e h. h))

pub read_call-returns-in_err-args-clause-place : goal.read_call-returns-in_err-args-clause-place
read_call-returns-in_err-args-clause-place t c =
    err_within _ c.from_residual.result c.in_err-args.field-0.0 c.from_residual.ensures.1
    (λ is. c.in_err-args.ensures.place (node_named (codes "call") c.args.depth) _ (c.new-fields.ensures.left (node_named (codes "call") c.args.depth) (codes "args") refl) refl)

pub read_call-returns-in_err-end_of_node-clause-place : goal.read_call-returns-in_err-end_of_node-clause-place
read_call-returns-in_err-end_of_node-clause-place t c =
    err_within _ c.from_residual-in_err-end_of_node.result c.in_err-end_of_node.field-0.0 c.from_residual-in_err-end_of_node.ensures.1
    (λ is. c.in_err-end_of_node.ensures.place (node_named (codes "call") c.args.depth) _ ((c.in_ok-args.ensures.left (node_named (codes "call") c.args.depth) _ (c.new-fields.ensures.left (node_named (codes "call") c.args.depth) (codes "args") refl) refl).3 None refl) (same_type _ _ _ (c.in_ok-args.ensures.left (node_named (codes "call") c.args.depth) _ (c.new-fields.ensures.left (node_named (codes "call") c.args.depth) (codes "args") refl) refl).2 is))

pub read_call-returns-in-Err-clause-place : goal.read_call-returns-in-Err-clause-place
read_call-returns-in-Err-clause-place t c = λ is. c.inside.ensures.place (node_named (codes "call") c.args.depth) function _ _ (by_row (node_named (codes "call") c.args.depth) function _ (codes "func") refl) (c.in_ok-args.ensures.left (node_named (codes "call") c.args.depth) _ (c.new-fields.ensures.left (node_named (codes "call") c.args.depth) (codes "args") refl) refl).1 c.in-Err.ensures.place

pub read_call-returns-in-Err-read_args-clause-place : goal.read_call-returns-in-Err-read_args-clause-place
read_call-returns-in-Err-read_args-clause-place t c = λ is. c.inside-in-Err-read_args.ensures.place (node_named (codes "call") c.args.depth) (list_of ListThere (node c.args.depth)) _ _ (by_row (node_named (codes "call") c.args.depth) (list_of ListThere (node c.args.depth)) _ (codes "args") refl) (c.in_ok-args.ensures.left (node_named (codes "call") c.args.depth) _ (c.new-fields.ensures.left (node_named (codes "call") c.args.depth) (codes "args") refl) refl).0 c.in-Err-read_args.ensures.place

pub read_args-returns-in_err-list-clause-place : goal.read_args-returns-in_err-list-clause-place
read_args-returns-in_err-list-clause-place t c =
    err_within _ c.from_residual.result c.in_err-list.field-0.0 c.from_residual.ensures.1
    (c.in_err-list.ensures.place (list_of ListThere (node c.args.depth)) refl)

pub read_node-returns-in_err-read_aggregate-in-aggregation-clause-err : goal.read_node-returns-in_err-read_aggregate-in-aggregation-clause-err
read_node-returns-in_err-read_aggregate-in-aggregation-clause-err t c =
    err_within _ c.from_residual.result c.in_err-read_aggregate-in-aggregation.field-0.0 c.from_residual.ensures.1
    (λ other tree fine h. no_node _ _ (codes "aggregation") tree (c.in_err-read_aggregate-in-aggregation.ensures.err other) (sym c.in-aggregation.is ∙ tree_type _ _ c.requires.1.1 tree h) fine h)

pub read_node-returns-in_err-read_aggregate-in-aggregation-clause-place : goal.read_node-returns-in_err-read_aggregate-in-aggregation-clause-place
read_node-returns-in_err-read_aggregate-in-aggregation-clause-place t c =
    err_within _ c.from_residual.result c.in_err-read_aggregate-in-aggregation.field-0.0 c.from_residual.ensures.1
    (in_typed c.args.depth _ (codes "aggregation") _ _ (typed_as _ _ (codes "aggregation") c.requires.1.1 c.in-aggregation.is (differ (codes "aggregation") [] refl)) refl (c.in_err-read_aggregate-in-aggregation.ensures.place (typed_as _ _ (codes "aggregation") c.requires.1.1 c.in-aggregation.is (differ (codes "aggregation") [] refl))))

pub read_node-returns-in_err-read_unary-in-unaryExpr-clause-err : goal.read_node-returns-in_err-read_unary-in-unaryExpr-clause-err
read_node-returns-in_err-read_unary-in-unaryExpr-clause-err t c =
    err_within _ c.from_residual-in_err-read_unary-in-unaryExpr.result c.in_err-read_unary-in-unaryExpr.field-0.0 c.from_residual-in_err-read_unary-in-unaryExpr.ensures.1
    (λ other tree fine h. no_node _ _ (codes "unaryExpr") tree (c.in_err-read_unary-in-unaryExpr.ensures.err other) (sym c.in-unaryExpr.is ∙ tree_type _ _ c.requires.1.1 tree h) fine h)

pub read_node-returns-in_err-read_unary-in-unaryExpr-clause-place : goal.read_node-returns-in_err-read_unary-in-unaryExpr-clause-place
read_node-returns-in_err-read_unary-in-unaryExpr-clause-place t c =
    err_within _ c.from_residual-in_err-read_unary-in-unaryExpr.result c.in_err-read_unary-in-unaryExpr.field-0.0 c.from_residual-in_err-read_unary-in-unaryExpr.ensures.1
    (in_typed c.args.depth _ (codes "unaryExpr") _ _ (typed_as _ _ (codes "unaryExpr") c.requires.1.1 c.in-unaryExpr.is (differ (codes "unaryExpr") [] refl)) refl (c.in_err-read_unary-in-unaryExpr.ensures.place (typed_as _ _ (codes "unaryExpr") c.requires.1.1 c.in-unaryExpr.is (differ (codes "unaryExpr") [] refl))))

pub read_node-returns-in_err-read_binary-in-binaryExpr-clause-err : goal.read_node-returns-in_err-read_binary-in-binaryExpr-clause-err
read_node-returns-in_err-read_binary-in-binaryExpr-clause-err t c =
    err_within _ c.from_residual-in_err-read_binary-in-binaryExpr.result c.in_err-read_binary-in-binaryExpr.field-0.0 c.from_residual-in_err-read_binary-in-binaryExpr.ensures.1
    (λ other tree fine h. no_node _ _ (codes "binaryExpr") tree (c.in_err-read_binary-in-binaryExpr.ensures.err other) (sym c.in-binaryExpr.is ∙ tree_type _ _ c.requires.1.1 tree h) fine h)

pub read_node-returns-in_err-read_binary-in-binaryExpr-clause-place : goal.read_node-returns-in_err-read_binary-in-binaryExpr-clause-place
read_node-returns-in_err-read_binary-in-binaryExpr-clause-place t c =
    err_within _ c.from_residual-in_err-read_binary-in-binaryExpr.result c.in_err-read_binary-in-binaryExpr.field-0.0 c.from_residual-in_err-read_binary-in-binaryExpr.ensures.1
    (in_typed c.args.depth _ (codes "binaryExpr") _ _ (typed_as _ _ (codes "binaryExpr") c.requires.1.1 c.in-binaryExpr.is (differ (codes "binaryExpr") [] refl)) refl (c.in_err-read_binary-in-binaryExpr.ensures.place (typed_as _ _ (codes "binaryExpr") c.requires.1.1 c.in-binaryExpr.is (differ (codes "binaryExpr") [] refl))))

pub read_node-returns-in_err-read_paren-in-parenExpr-clause-err : goal.read_node-returns-in_err-read_paren-in-parenExpr-clause-err
read_node-returns-in_err-read_paren-in-parenExpr-clause-err t c =
    err_within _ c.from_residual-in_err-read_paren-in-parenExpr.result c.in_err-read_paren-in-parenExpr.field-0.0 c.from_residual-in_err-read_paren-in-parenExpr.ensures.1
    (λ other tree fine h. no_node _ _ (codes "parenExpr") tree (c.in_err-read_paren-in-parenExpr.ensures.err other) (sym c.in-parenExpr.is ∙ tree_type _ _ c.requires.1.1 tree h) fine h)

pub read_node-returns-in_err-read_paren-in-parenExpr-clause-place : goal.read_node-returns-in_err-read_paren-in-parenExpr-clause-place
read_node-returns-in_err-read_paren-in-parenExpr-clause-place t c =
    err_within _ c.from_residual-in_err-read_paren-in-parenExpr.result c.in_err-read_paren-in-parenExpr.field-0.0 c.from_residual-in_err-read_paren-in-parenExpr.ensures.1
    (in_typed c.args.depth _ (codes "parenExpr") _ _ (typed_as _ _ (codes "parenExpr") c.requires.1.1 c.in-parenExpr.is (differ (codes "parenExpr") [] refl)) refl (c.in_err-read_paren-in-parenExpr.ensures.place (typed_as _ _ (codes "parenExpr") c.requires.1.1 c.in-parenExpr.is (differ (codes "parenExpr") [] refl))))

pub read_node-returns-in_err-read_subquery-in-subquery-clause-err : goal.read_node-returns-in_err-read_subquery-in-subquery-clause-err
read_node-returns-in_err-read_subquery-in-subquery-clause-err t c =
    err_within _ c.from_residual-in_err-read_subquery-in-subquery.result c.in_err-read_subquery-in-subquery.field-0.0 c.from_residual-in_err-read_subquery-in-subquery.ensures.1
    (λ other tree fine h. no_node _ _ (codes "subquery") tree (c.in_err-read_subquery-in-subquery.ensures.err other) (sym c.in-subquery.is ∙ tree_type _ _ c.requires.1.1 tree h) fine h)

pub read_node-returns-in_err-read_subquery-in-subquery-clause-place : goal.read_node-returns-in_err-read_subquery-in-subquery-clause-place
read_node-returns-in_err-read_subquery-in-subquery-clause-place t c =
    err_within _ c.from_residual-in_err-read_subquery-in-subquery.result c.in_err-read_subquery-in-subquery.field-0.0 c.from_residual-in_err-read_subquery-in-subquery.ensures.1
    (in_typed c.args.depth _ (codes "subquery") _ _ (typed_as _ _ (codes "subquery") c.requires.1.1 c.in-subquery.is (differ (codes "subquery") [] refl)) refl (c.in_err-read_subquery-in-subquery.ensures.place (typed_as _ _ (codes "subquery") c.requires.1.1 c.in-subquery.is (differ (codes "subquery") [] refl))))

pub read_node-returns-in_err-read_number_literal-in-numberLiteral-clause-err : goal.read_node-returns-in_err-read_number_literal-in-numberLiteral-clause-err
read_node-returns-in_err-read_number_literal-in-numberLiteral-clause-err t c =
    err_within _ c.from_residual-in_err-read_number_literal-in-numberLiteral.result c.in_err-read_number_literal-in-numberLiteral.field-0.0 c.from_residual-in_err-read_number_literal-in-numberLiteral.ensures.1
    (λ other tree fine h. no_node _ _ (codes "numberLiteral") tree (c.in_err-read_number_literal-in-numberLiteral.ensures.err other) (sym c.in-numberLiteral.is ∙ tree_type _ _ c.requires.1.1 tree h) fine h)

pub read_node-returns-in_err-read_number_literal-in-numberLiteral-clause-place : goal.read_node-returns-in_err-read_number_literal-in-numberLiteral-clause-place
read_node-returns-in_err-read_number_literal-in-numberLiteral-clause-place t c =
    err_within _ c.from_residual-in_err-read_number_literal-in-numberLiteral.result c.in_err-read_number_literal-in-numberLiteral.field-0.0 c.from_residual-in_err-read_number_literal-in-numberLiteral.ensures.1
    (in_typed c.args.depth _ (codes "numberLiteral") _ _ (typed_as _ _ (codes "numberLiteral") c.requires.1.1 c.in-numberLiteral.is (differ (codes "numberLiteral") [] refl)) refl (c.in_err-read_number_literal-in-numberLiteral.ensures.place c.args.depth (typed_as _ _ (codes "numberLiteral") c.requires.1.1 c.in-numberLiteral.is (differ (codes "numberLiteral") [] refl))))

pub read_node-returns-in_err-read_string_literal-in-stringLiteral-clause-err : goal.read_node-returns-in_err-read_string_literal-in-stringLiteral-clause-err
read_node-returns-in_err-read_string_literal-in-stringLiteral-clause-err t c =
    err_within _ c.from_residual-in_err-read_string_literal-in-stringLiteral.result c.in_err-read_string_literal-in-stringLiteral.field-0.0 c.from_residual-in_err-read_string_literal-in-stringLiteral.ensures.1
    (λ other tree fine h. no_node _ _ (codes "stringLiteral") tree (c.in_err-read_string_literal-in-stringLiteral.ensures.err other) (sym c.in-stringLiteral.is ∙ tree_type _ _ c.requires.1.1 tree h) fine h)

pub read_node-returns-in_err-read_string_literal-in-stringLiteral-clause-place : goal.read_node-returns-in_err-read_string_literal-in-stringLiteral-clause-place
read_node-returns-in_err-read_string_literal-in-stringLiteral-clause-place t c =
    err_within _ c.from_residual-in_err-read_string_literal-in-stringLiteral.result c.in_err-read_string_literal-in-stringLiteral.field-0.0 c.from_residual-in_err-read_string_literal-in-stringLiteral.ensures.1
    (in_typed c.args.depth _ (codes "stringLiteral") _ _ (typed_as _ _ (codes "stringLiteral") c.requires.1.1 c.in-stringLiteral.is (differ (codes "stringLiteral") [] refl)) refl (c.in_err-read_string_literal-in-stringLiteral.ensures.place c.args.depth (typed_as _ _ (codes "stringLiteral") c.requires.1.1 c.in-stringLiteral.is (differ (codes "stringLiteral") [] refl))))

pub read_node-returns-in_err-read_vector-in-vectorSelector-clause-err : goal.read_node-returns-in_err-read_vector-in-vectorSelector-clause-err
read_node-returns-in_err-read_vector-in-vectorSelector-clause-err t c =
    err_within _ c.from_residual-in_err-read_vector-in-vectorSelector.result c.in_err-read_vector-in-vectorSelector.field-0.0 c.from_residual-in_err-read_vector-in-vectorSelector.ensures.1
    (λ other tree fine h. no_node _ _ (codes "vectorSelector") tree (c.in_err-read_vector-in-vectorSelector.ensures.err other) (sym c.in-vectorSelector.is ∙ tree_type _ _ c.requires.1.1 tree h) fine h)

pub read_node-returns-in_err-read_vector-in-vectorSelector-clause-place : goal.read_node-returns-in_err-read_vector-in-vectorSelector-clause-place
read_node-returns-in_err-read_vector-in-vectorSelector-clause-place t c =
    err_within _ c.from_residual-in_err-read_vector-in-vectorSelector.result c.in_err-read_vector-in-vectorSelector.field-0.0 c.from_residual-in_err-read_vector-in-vectorSelector.ensures.1
    (in_typed c.args.depth _ (codes "vectorSelector") _ _ (typed_as _ _ (codes "vectorSelector") c.requires.1.1 c.in-vectorSelector.is (differ (codes "vectorSelector") [] refl)) refl (c.in_err-read_vector-in-vectorSelector.ensures.place c.args.depth (typed_as _ _ (codes "vectorSelector") c.requires.1.1 c.in-vectorSelector.is (differ (codes "vectorSelector") [] refl))))

pub read_node-returns-in_err-read_matrix-in-matrixSelector-clause-err : goal.read_node-returns-in_err-read_matrix-in-matrixSelector-clause-err
read_node-returns-in_err-read_matrix-in-matrixSelector-clause-err t c =
    err_within _ c.from_residual-in_err-read_matrix-in-matrixSelector.result c.in_err-read_matrix-in-matrixSelector.field-0.0 c.from_residual-in_err-read_matrix-in-matrixSelector.ensures.1
    (λ other tree fine h. no_node _ _ (codes "matrixSelector") tree (c.in_err-read_matrix-in-matrixSelector.ensures.err other) (sym c.in-matrixSelector.is ∙ tree_type _ _ c.requires.1.1 tree h) fine h)

pub read_node-returns-in_err-read_matrix-in-matrixSelector-clause-place : goal.read_node-returns-in_err-read_matrix-in-matrixSelector-clause-place
read_node-returns-in_err-read_matrix-in-matrixSelector-clause-place t c =
    err_within _ c.from_residual-in_err-read_matrix-in-matrixSelector.result c.in_err-read_matrix-in-matrixSelector.field-0.0 c.from_residual-in_err-read_matrix-in-matrixSelector.ensures.1
    (in_typed c.args.depth _ (codes "matrixSelector") _ _ (typed_as _ _ (codes "matrixSelector") c.requires.1.1 c.in-matrixSelector.is (differ (codes "matrixSelector") [] refl)) refl (c.in_err-read_matrix-in-matrixSelector.ensures.place c.args.depth (typed_as _ _ (codes "matrixSelector") c.requires.1.1 c.in-matrixSelector.is (differ (codes "matrixSelector") [] refl))))

pub read_node-returns-in_err-read_call-in-call-clause-err : goal.read_node-returns-in_err-read_call-in-call-clause-err
read_node-returns-in_err-read_call-in-call-clause-err t c =
    err_within _ c.from_residual-in_err-read_call-in-call.result c.in_err-read_call-in-call.field-0.0 c.from_residual-in_err-read_call-in-call.ensures.1
    (λ other tree fine h. no_node _ _ (codes "call") tree (c.in_err-read_call-in-call.ensures.err other) (sym c.in-call.is ∙ tree_type _ _ c.requires.1.1 tree h) fine h)

pub read_node-returns-in_err-read_call-in-call-clause-place : goal.read_node-returns-in_err-read_call-in-call-clause-place
read_node-returns-in_err-read_call-in-call-clause-place t c =
    err_within _ c.from_residual-in_err-read_call-in-call.result c.in_err-read_call-in-call.field-0.0 c.from_residual-in_err-read_call-in-call.ensures.1
    (in_typed c.args.depth _ (codes "call") _ _ (typed_as _ _ (codes "call") c.requires.1.1 c.in-call.is (differ (codes "call") [] refl)) refl (c.in_err-read_call-in-call.ensures.place (typed_as _ _ (codes "call") c.requires.1.1 c.in-call.is (differ (codes "call") [] refl))))

pub read_expr-returns-then-depth-eq0-clause-place : goal.read_expr-returns-then-depth-eq0-clause-place
read_expr-returns-then-depth-eq0-clause-place t c =
    c.here.ensures (node c.args.depth) _ (subst (λ k. MisfitAt (node k) (view c.args.value.now) [] LowTree) (sym c.if-depth-eq0.true) (too_high (view c.args.value.now)))

pub read_node-returns-in_default-clause-place : goal.read_node-returns-in_default-clause-place
read_node-returns-in_default-clause-place t c =
    c.at.ensures (node (c.args.depth + 1)) _ (untyped c.args.depth _ (untyped_node c.args.depth _ c.args.node.now c.requires.1.1
    (no_row c.args.depth c.args.node.now c.in_default.not-aggregation c.in_default.not-unaryExpr c.in_default.not-binaryExpr c.in_default.not-parenExpr c.in_default.not-subquery c.in_default.not-numberLiteral c.in_default.not-stringLiteral c.in_default.not-vectorSelector c.in_default.not-matrixSelector c.in_default.not-call)))

object_expected : (n : ℕ) → (n ≡ 0 → ⊥) → slice_get (expected_at (node n)) 0 ≡ Some ObjectThere
object_expected zero h = absurd (h refl)
object_expected (suc n) h = refl

pub read_expr-returns-in_err-members-clause-place : goal.read_expr-returns-in_err-members-clause-place
read_expr-returns-in_err-members-clause-place t c =
    err_within _ c.from_residual.result c.in_err-members.field-0.0 c.from_residual.ensures.1
    (c.in_err-members.ensures.place (node c.args.depth) (object_expected c.args.depth c.if-depth-eq0.false))

less_one : (n : ℕ) → (n ≡ 0 → ⊥) → n - 1 + 1 ≡ n
less_one zero h = absurd (h refl)
less_one (suc n) h = omega arith

pub read_expr-returns-clause-place : goal.read_expr-returns-clause-place
read_expr-returns-clause-place t c =
    rw c.in_ok-members.ensures.ok (IfErr-weaker c.read_node.result _ _
    (λ e place. subst (λ k. IsIn (node k) (object (members_view c.in_ok-members.members.now.entries)) e) (less_one c.args.depth c.if-depth-eq0.false) place) c.read_node.ensures.place)

pub read_node-returns-in_default-clause-err : goal.read_node-returns-in_default-clause-err
read_node-returns-in_default-clause-err t c = λ other tree fine h.
    let d = c.in_default in
    no_other_node _ _ c.args.node.now tree (
      d.not-aggregation,
      (
        d.not-unaryExpr,
        (
          d.not-binaryExpr,
          (
            d.not-parenExpr,
            (
              d.not-subquery,
              (
                d.not-numberLiteral,
                (
                  d.not-stringLiteral,
                  (d.not-vectorSelector, (d.not-matrixSelector, (d.not-call, tt))),
                ),
              ),
            ),
          ),
        ),
      ),
    )
    (tree_type _ _ c.requires.1.1 tree h) fine h

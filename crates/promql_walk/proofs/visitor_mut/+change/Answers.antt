use Rattle.std.proofs.Common.{Ok, refl, sym, ap, ◌∙◌, rules, option_map, string_bytes, arith, ◌+◌, ◌≤◌}
use Rattle.std.proofs.lemmas.List.{drop-set-lt, with_items_is}
use Rattle.std.proofs.lemmas.Grind.{drop_more_same}
use Rattle.std.specs.Duration.{as_nanos}
use Rattle.promql_kind.specs.Functions.{signature_of}
use Rattle.promql_kind.specs.ModifierViews.{clause_of}
use Rattle.promql_ast.specs.Shifts.{shift_of, moment_of}
use Rattle.promql_ast.specs.Height.{height, greatest_height}
use Rattle.promql_ast.specs.Tree.{aggregate, unary, paren, subquery, call, extension, first_tree, no_trees}
use Rattle.promql_ast.specs.View.{tree_of, trees_of, children_of, option_tree, aggregate_tree, binary_tree, call_tree, extension_tree}
use Rattle.promql_ast.proofs.nodes.NodeParts.{tree_of_aggregate, tree_of_call, tree_of_extension}
use Rattle.promql_walk.specs.Changes.{EditsOr}
use Rattle.promql_walk.proofs.Changed.{before_as, below_as, through_as, one, on_as, here_as, leaf_as, same, same_below, same_each, from_below, one_no_higher, each_more, each_ends, each_all}
use Rattle.promql_walk.proofs.visitor_mut.+change.Goals as goal

pub walk_expr_mut-returns-in-Ok-true-walk_children_mut : goal.walk_expr_mut-returns-in-Ok-true-walk_children_mut
walk_expr_mut-returns-in-Ok-true-walk_children_mut g t c = through_as g.V.ExprVisitorMut.pre_gives (EditsOr g.V.ExprVisitorMut.post_gives) _ _ _ _ _ _ _ _ _ _ _ (c.in-Ok-true.is ∙ ap (λ b. Ok b) c.in-Ok-true.field-0-test) c.pre_visit.ensures.gives (c.in-Ok-true-walk_children_mut.is ∙ ap (λ b. Ok b) c.in-Ok-true-walk_children_mut.field-0-test) c.walk_children_mut.ensures c.post_visit.ensures

pub walk_expr_mut-returns-in-Ok-false-walk_children_mut : goal.walk_expr_mut-returns-in-Ok-false-walk_children_mut
walk_expr_mut-returns-in-Ok-false-walk_children_mut g t c = below_as g.V.ExprVisitorMut.pre_gives (EditsOr g.V.ExprVisitorMut.post_gives) _ _ _ _ _ _ _ _ _ (c.in-Ok-true.is ∙ ap (λ b. Ok b) c.in-Ok-true.field-0-test) c.pre_visit.ensures.gives tt (c.in-Ok-false-walk_children_mut.is ∙ ap (λ b. Ok b) c.in-Ok-false-walk_children_mut.field-0-test) c.walk_children_mut.ensures

pub walk_expr_mut-returns-in-Err-walk_children_mut : goal.walk_expr_mut-returns-in-Err-walk_children_mut
walk_expr_mut-returns-in-Err-walk_children_mut g t c = below_as g.V.ExprVisitorMut.pre_gives (EditsOr g.V.ExprVisitorMut.post_gives) _ _ _ _ _ _ _ _ _ (c.in-Ok-true.is ∙ ap (λ b. Ok b) c.in-Ok-true.field-0-test) c.pre_visit.ensures.gives tt c.in-Err-walk_children_mut.is c.walk_children_mut.ensures

pub walk_expr_mut-returns-in-Ok-false : goal.walk_expr_mut-returns-in-Ok-false
walk_expr_mut-returns-in-Ok-false g t c = before_as g.V.ExprVisitorMut.pre_gives (EditsOr g.V.ExprVisitorMut.post_gives) _ _ _ _ _ _ tt (c.in-Ok-false.is ∙ ap (λ b. Ok b) c.in-Ok-false.field-0-test) c.pre_visit.ensures.gives

pub walk_expr_mut-returns-in-Err : goal.walk_expr_mut-returns-in-Err
walk_expr_mut-returns-in-Err g t c = before_as g.V.ExprVisitorMut.pre_gives (EditsOr g.V.ExprVisitorMut.post_gives) _ _ _ _ _ _ tt c.in-Err.is c.pre_visit.ensures.gives

pub walk_children_mut-returns-in-Unary : goal.walk_children_mut-returns-in-Unary
walk_children_mut-returns-in-Unary g t c = same_below g.V.ExprVisitorMut.pre_gives (EditsOr g.V.ExprVisitorMut.post_gives) _ _ (unary (tree_of c.in-Unary.e.expr.value)) _ _ (unary (tree_of c.walk_expr_mut.new.expr)) _ (search rules) (search rules) (first_tree (tree_of c.walk_expr_mut.new.expr) no_trees, (one g.V.ExprVisitorMut.pre_gives (EditsOr g.V.ExprVisitorMut.post_gives) _ _ _ _ _ (same g.V.ExprVisitorMut.pre_gives (EditsOr g.V.ExprVisitorMut.post_gives) _ _ _ _ _ _ _ (search rules) refl c.walk_expr_mut.ensures), refl))

pub walk_children_mut-returns-in-Paren : goal.walk_children_mut-returns-in-Paren
walk_children_mut-returns-in-Paren g t c = same_below g.V.ExprVisitorMut.pre_gives (EditsOr g.V.ExprVisitorMut.post_gives) _ _ (paren (tree_of c.in-Paren.e.expr.value)) _ _ (paren (tree_of c.walk_expr_mut-in-Paren.new.expr)) _ (search rules) (search rules) (first_tree (tree_of c.walk_expr_mut-in-Paren.new.expr) no_trees, (one g.V.ExprVisitorMut.pre_gives (EditsOr g.V.ExprVisitorMut.post_gives) _ _ _ _ _ (same g.V.ExprVisitorMut.pre_gives (EditsOr g.V.ExprVisitorMut.post_gives) _ _ _ _ _ _ _ (search rules) refl c.walk_expr_mut-in-Paren.ensures), refl))

pub walk_children_mut-returns-in-Subquery : goal.walk_children_mut-returns-in-Subquery
walk_children_mut-returns-in-Subquery g t c = same_below g.V.ExprVisitorMut.pre_gives (EditsOr g.V.ExprVisitorMut.post_gives) _ _ (subquery (tree_of c.in-Subquery.e.expr.value) (option_map shift_of c.in-Subquery.e.offset) (option_map moment_of c.in-Subquery.e.at) (as_nanos c.in-Subquery.e.range) (option_map as_nanos c.in-Subquery.e.step)) _ _ (subquery (tree_of c.walk_expr_mut-in-Subquery.new.expr) (option_map shift_of c.in-Subquery.e.offset) (option_map moment_of c.in-Subquery.e.at) (as_nanos c.in-Subquery.e.range) (option_map as_nanos c.in-Subquery.e.step)) _ (search rules) (search rules) (first_tree (tree_of c.walk_expr_mut-in-Subquery.new.expr) no_trees, (one g.V.ExprVisitorMut.pre_gives (EditsOr g.V.ExprVisitorMut.post_gives) _ _ _ _ _ (same g.V.ExprVisitorMut.pre_gives (EditsOr g.V.ExprVisitorMut.post_gives) _ _ _ _ _ _ _ (search rules) refl c.walk_expr_mut-in-Subquery.ensures), refl))

pub walk_children_mut-returns-in-Aggregate : goal.walk_children_mut-returns-in-Aggregate
walk_children_mut-returns-in-Aggregate g t c = from_below g.V.ExprVisitorMut.pre_gives (EditsOr g.V.ExprVisitorMut.post_gives) _ _ _ _ _ (aggregate_tree c.walk_aggregate_mut.new.node) _ c.walk_aggregate_mut.ensures
    (ap tree_of c.in-Aggregate.is ∙ tree_of_aggregate c.in-Aggregate.e ∙ sym (ap aggregate_tree c.in-Aggregate.e-is)) (search (rules, tree_of_aggregate))

pub walk_children_mut-returns-in-Binary : goal.walk_children_mut-returns-in-Binary
walk_children_mut-returns-in-Binary g t c = from_below g.V.ExprVisitorMut.pre_gives (EditsOr g.V.ExprVisitorMut.post_gives) _ _ _ _ _ (binary_tree c.walk_binary_mut.new.node) _ c.walk_binary_mut.ensures
    (ap tree_of c.in-Binary.is ∙ sym (ap binary_tree c.in-Binary.e-is)) (search rules)

pub walk_children_mut-returns-in-NumberLiteral : goal.walk_children_mut-returns-in-NumberLiteral
walk_children_mut-returns-in-NumberLiteral g t c = leaf_as g.V.ExprVisitorMut.pre_gives (EditsOr g.V.ExprVisitorMut.post_gives) _ _ _ (ap tree_of c.in-NumberLiteral.is) refl refl

pub walk_children_mut-returns-in-StringLiteral : goal.walk_children_mut-returns-in-StringLiteral
walk_children_mut-returns-in-StringLiteral g t c = leaf_as g.V.ExprVisitorMut.pre_gives (EditsOr g.V.ExprVisitorMut.post_gives) _ _ _ (ap tree_of c.in-StringLiteral.is) refl refl

pub walk_children_mut-returns-in-VectorSelector : goal.walk_children_mut-returns-in-VectorSelector
walk_children_mut-returns-in-VectorSelector g t c = leaf_as g.V.ExprVisitorMut.pre_gives (EditsOr g.V.ExprVisitorMut.post_gives) _ _ _ (ap tree_of c.in-VectorSelector.is) refl refl

pub walk_children_mut-returns-in-MatrixSelector : goal.walk_children_mut-returns-in-MatrixSelector
walk_children_mut-returns-in-MatrixSelector g t c = leaf_as g.V.ExprVisitorMut.pre_gives (EditsOr g.V.ExprVisitorMut.post_gives) _ _ _ (ap tree_of c.in-MatrixSelector.is) refl refl

pub walk_children_mut-returns-in-Call : goal.walk_children_mut-returns-in-Call
walk_children_mut-returns-in-Call g t c = from_below g.V.ExprVisitorMut.pre_gives (EditsOr g.V.ExprVisitorMut.post_gives) _ _ _ _ _ (call_tree c.walk_call_mut.new.node) _ c.walk_call_mut.ensures
    (ap tree_of c.in-Call.is ∙ tree_of_call c.in-Call.e ∙ sym (ap call_tree c.in-Call.e-is)) (search (rules, tree_of_call))

pub walk_children_mut-returns-in-Extension : goal.walk_children_mut-returns-in-Extension
walk_children_mut-returns-in-Extension g t c = from_below g.V.ExprVisitorMut.pre_gives (EditsOr g.V.ExprVisitorMut.post_gives) _ _ _ _ _ (extension_tree c.walk_extension_mut.new.node) _ c.walk_extension_mut.ensures
    (ap tree_of c.in-Extension.is ∙ tree_of_extension c.in-Extension.e ∙ sym (ap extension_tree c.in-Extension.e-is)) (search (rules, tree_of_extension))

pub walk_call_mut-returns : goal.walk_call_mut-returns
walk_call_mut-returns g t c = (trees_of c.walk_args_mut.new.args, (same_each g.V.ExprVisitorMut.pre_gives (EditsOr g.V.ExprVisitorMut.post_gives) _ _ _ _ _ _ _ (ap trees_of c.as_mut_slice.ensures.value) refl c.walk_args_mut.ensures, ap (λ bs. call (signature_of c.args.node.now.func) (trees_of bs)) (with_items_is c.args.node.now.args.args c.walk_args_mut.new.args (omega arith))))

pub walk_extension_mut-returns : goal.walk_extension_mut-returns
walk_extension_mut-returns g t c = (children_of c.walk_nodes_mut.new.nodes, (same_each g.V.ExprVisitorMut.pre_gives (EditsOr g.V.ExprVisitorMut.post_gives) _ _ _ _ _ _ _ (ap children_of c.as_mut_slice.ensures.value) refl c.walk_nodes_mut.ensures, ap (λ es. extension (string_bytes c.args.node.now.name) c.args.node.now.value_type (children_of es)) (with_items_is c.args.node.now.children c.walk_nodes_mut.new.nodes (omega arith))))

pub walk_args_mut-walk_expr_mut-requires : goal.walk_args_mut-walk_expr_mut-requires
walk_args_mut-walk_expr_mut-requires g t c =
    let here : height (tree_of c.index-args-i.result.value) ≤ greatest_height (trees_of c.args.args.now) =
    one_no_higher (λ b. tree_of b.value) c.loop-i.args c.args.args.now c.loop-i.i c.index-args-i.result (omega arith) c.index-args-i.is c.loop-i.invariant.rest in
    let same = ap (λ e. height (tree_of e)) (c.deref_mut.ensures.value ∙ ap (λ b. b.value) (sym c.index-args-i.is)) in
    λ κs within. (omega (arith, here, same), within)

pub walk_nodes_mut-walk_expr_mut-requires : goal.walk_nodes_mut-walk_expr_mut-requires
walk_nodes_mut-walk_expr_mut-requires g t c =
    let here : height (tree_of c.index-nodes-i.result) ≤ greatest_height (children_of c.args.nodes.now) =
    one_no_higher tree_of c.loop-i.nodes c.args.nodes.now c.loop-i.i c.index-nodes-i.result (omega arith) c.index-nodes-i.is c.loop-i.invariant.rest in
    let same = ap (λ e. height (tree_of e)) c.index-nodes-i.is in
    λ κs within. (omega (arith, here, same), within)

pub walk_children_mut-walk_call_mut-requires : goal.walk_children_mut-walk_call_mut-requires
walk_children_mut-walk_call_mut-requires g t c =
    let same = ap height (ap tree_of c.in-Call.is ∙ tree_of_call c.in-Call.e ∙ sym (ap call_tree c.in-Call.e-is)) in
    λ κs within. (omega (arith, same), within)

pub walk_children_mut-walk_extension_mut-requires : goal.walk_children_mut-walk_extension_mut-requires
walk_children_mut-walk_extension_mut-requires g t c =
    let same = ap height (ap tree_of c.in-Extension.is ∙ tree_of_extension c.in-Extension.e ∙ sym (ap extension_tree c.in-Extension.e-is)) in
    λ κs within. (omega (arith, same), within)

pub walk_binary_mut-returns-in-Ok-true : goal.walk_binary_mut-returns-in-Ok-true
walk_binary_mut-returns-in-Ok-true g t c =
    let left = same g.V.ExprVisitorMut.pre_gives (EditsOr g.V.ExprVisitorMut.post_gives) _ _ (tree_of c.args.node.now.lhs.value) _ _ _ _ (ap tree_of c.deref_mut.ensures.value) refl c.walk_expr_mut.ensures in
    let right = same g.V.ExprVisitorMut.pre_gives (EditsOr g.V.ExprVisitorMut.post_gives) _ _ (tree_of c.args.node.now.rhs.value) _ _ _ _ (ap tree_of c.deref_mut-in-Ok-true.ensures.value) refl c.walk_expr_mut-in-Ok-true.ensures in
    (_, (on_as g.V.ExprVisitorMut.pre_gives (EditsOr g.V.ExprVisitorMut.post_gives) _ _ _ _ _ _ _ _ _ (c.in-Ok-true.is ∙ ap (λ b. Ok b) c.in-Ok-true.field-0-test) left (one g.V.ExprVisitorMut.pre_gives (EditsOr g.V.ExprVisitorMut.post_gives) _ _ _ _ _ right), refl))

pub walk_aggregate_mut-returns-in-Ok-true : goal.walk_aggregate_mut-returns-in-Ok-true
walk_aggregate_mut-returns-in-Ok-true g t c =
    let is = (ap (λ p. aggregate c.args.node.now.op (tree_of c.args.node.now.expr.value) (option_tree p) (option_map clause_of c.args.node.now.modifier)) c.in-Some.is) in
    let param = same g.V.ExprVisitorMut.pre_gives (EditsOr g.V.ExprVisitorMut.post_gives) _ _ (tree_of c.in-Some.param.value) _ _ _ _ (search rules) refl c.walk_expr_mut.ensures in
    let expr = same g.V.ExprVisitorMut.pre_gives (EditsOr g.V.ExprVisitorMut.post_gives) _ _ (tree_of c.args.node.now.expr.value) _ _ _ _ (ap tree_of c.deref_mut-in-Ok-true.ensures.value) refl c.walk_expr_mut-in-Ok-true.ensures in
    from_below g.V.ExprVisitorMut.pre_gives (EditsOr g.V.ExprVisitorMut.post_gives) _ _ _ _ _ _ _ (_, (on_as g.V.ExprVisitorMut.pre_gives (EditsOr g.V.ExprVisitorMut.post_gives) _ _ _ _ _ _ _ _ _ (c.in-Ok-true.is ∙ ap (λ b. Ok b) c.in-Ok-true.field-0-test) param (one g.V.ExprVisitorMut.pre_gives (EditsOr g.V.ExprVisitorMut.post_gives) _ _ _ _ _ expr), refl)) is refl

pub walk_binary_mut-returns-in-Ok-false : goal.walk_binary_mut-returns-in-Ok-false
walk_binary_mut-returns-in-Ok-false g t c =
    let left = same g.V.ExprVisitorMut.pre_gives (EditsOr g.V.ExprVisitorMut.post_gives) _ _ (tree_of c.args.node.now.lhs.value) _ _ _ _ (ap tree_of c.deref_mut.ensures.value) refl c.walk_expr_mut.ensures in
    (_, (here_as g.V.ExprVisitorMut.pre_gives (EditsOr g.V.ExprVisitorMut.post_gives) _ _ _ _ _ _ _ tt (c.in-Ok-false.is ∙ ap (λ b. Ok b) c.in-Ok-false.field-0-test) left, refl))

pub walk_aggregate_mut-returns-in-Ok-false : goal.walk_aggregate_mut-returns-in-Ok-false
walk_aggregate_mut-returns-in-Ok-false g t c =
    let is = (ap (λ p. aggregate c.args.node.now.op (tree_of c.args.node.now.expr.value) (option_tree p) (option_map clause_of c.args.node.now.modifier)) c.in-Some.is) in
    let param = same g.V.ExprVisitorMut.pre_gives (EditsOr g.V.ExprVisitorMut.post_gives) _ _ (tree_of c.in-Some.param.value) _ _ _ _ (search rules) refl c.walk_expr_mut.ensures in
    from_below g.V.ExprVisitorMut.pre_gives (EditsOr g.V.ExprVisitorMut.post_gives) _ _ _ _ _ _ _ (_, (here_as g.V.ExprVisitorMut.pre_gives (EditsOr g.V.ExprVisitorMut.post_gives) _ _ _ _ _ _ _ tt (c.in-Ok-false.is ∙ ap (λ b. Ok b) c.in-Ok-false.field-0-test) param, refl)) is refl

pub walk_binary_mut-returns-in-Err : goal.walk_binary_mut-returns-in-Err
walk_binary_mut-returns-in-Err g t c =
    let left = same g.V.ExprVisitorMut.pre_gives (EditsOr g.V.ExprVisitorMut.post_gives) _ _ (tree_of c.args.node.now.lhs.value) _ _ _ _ (ap tree_of c.deref_mut.ensures.value) refl c.walk_expr_mut.ensures in
    (_, (here_as g.V.ExprVisitorMut.pre_gives (EditsOr g.V.ExprVisitorMut.post_gives) _ _ _ _ _ _ _ tt c.in-Err.is left, refl))

pub walk_aggregate_mut-returns-in-Err : goal.walk_aggregate_mut-returns-in-Err
walk_aggregate_mut-returns-in-Err g t c =
    let is = (ap (λ p. aggregate c.args.node.now.op (tree_of c.args.node.now.expr.value) (option_tree p) (option_map clause_of c.args.node.now.modifier)) c.in-Some.is) in
    let param = same g.V.ExprVisitorMut.pre_gives (EditsOr g.V.ExprVisitorMut.post_gives) _ _ (tree_of c.in-Some.param.value) _ _ _ _ (search rules) refl c.walk_expr_mut.ensures in
    from_below g.V.ExprVisitorMut.pre_gives (EditsOr g.V.ExprVisitorMut.post_gives) _ _ _ _ _ _ _ (_, (here_as g.V.ExprVisitorMut.pre_gives (EditsOr g.V.ExprVisitorMut.post_gives) _ _ _ _ _ _ _ tt c.in-Err.is param, refl)) is refl

pub walk_aggregate_mut-returns-in-None : goal.walk_aggregate_mut-returns-in-None
walk_aggregate_mut-returns-in-None g t c =
    let is = (ap (λ p. aggregate c.args.node.now.op (tree_of c.args.node.now.expr.value) (option_tree p) (option_map clause_of c.args.node.now.modifier)) c.in-None.is) in
    let expr = same g.V.ExprVisitorMut.pre_gives (EditsOr g.V.ExprVisitorMut.post_gives) _ _ (tree_of c.args.node.now.expr.value) _ _ _ _ (ap tree_of c.deref_mut-in-None.ensures.value) refl c.walk_expr_mut-in-None.ensures in
    from_below g.V.ExprVisitorMut.pre_gives (EditsOr g.V.ExprVisitorMut.post_gives) _ _ _ _ _ _ _ (_, (one g.V.ExprVisitorMut.pre_gives (EditsOr g.V.ExprVisitorMut.post_gives) _ _ _ _ _ expr, refl)) is (search rules)

pub walk_args_mut-returns : goal.walk_args_mut-returns
walk_args_mut-returns g t c = each_all g.V.ExprVisitorMut.pre_gives (EditsOr g.V.ExprVisitorMut.post_gives) (λ b. tree_of b.value) c.args.args.now _ c.loop-i.args c.loop-i.i _ (omega arith) c.loop-i.invariant.walked

pub walk_args_mut-loop-i-preserved : goal.walk_args_mut-loop-i-preserved
walk_args_mut-loop-i-preserved g t c = record {
  walked = each_more g.V.ExprVisitorMut.pre_gives (EditsOr g.V.ExprVisitorMut.post_gives) (λ b. tree_of b.value) c.args.args.now _ c.loop-i.args c.loop-i.i c.index-args-i.result _ _ _ _ (omega arith) c.index-args-i.is (c.in-Ok-true.is ∙ ap (λ b. Ok b) c.in-Ok-true.field-0-test) (same g.V.ExprVisitorMut.pre_gives (EditsOr g.V.ExprVisitorMut.post_gives) _ _ (tree_of c.index-args-i.result.value) _ _ _ _ (search rules) refl c.walk_expr_mut.ensures) c.loop-i.invariant.walked;
  rest = drop-set-lt (c.loop-i.i + 1) c.loop-i.args c.loop-i.i _ (omega arith) ∙ drop_more_same _ _ c.loop-i.i c.loop-i.invariant.rest;
}

pub walk_args_mut-returns-in-Ok-false : goal.walk_args_mut-returns-in-Ok-false
walk_args_mut-returns-in-Ok-false g t c = each_ends g.V.ExprVisitorMut.pre_gives (EditsOr g.V.ExprVisitorMut.post_gives) (λ b. tree_of b.value) c.args.args.now _ c.loop-i.args c.loop-i.i c.index-args-i.result _ _ _ _ _ (omega arith) c.index-args-i.is tt (c.in-Ok-false.is ∙ ap (λ b. Ok b) c.in-Ok-false.field-0-test) (same g.V.ExprVisitorMut.pre_gives (EditsOr g.V.ExprVisitorMut.post_gives) _ _ (tree_of c.index-args-i.result.value) _ _ _ _ (search rules) refl c.walk_expr_mut.ensures) c.loop-i.invariant.walked

pub walk_args_mut-returns-in-Err : goal.walk_args_mut-returns-in-Err
walk_args_mut-returns-in-Err g t c = each_ends g.V.ExprVisitorMut.pre_gives (EditsOr g.V.ExprVisitorMut.post_gives) (λ b. tree_of b.value) c.args.args.now _ c.loop-i.args c.loop-i.i c.index-args-i.result _ _ _ _ _ (omega arith) c.index-args-i.is tt c.in-Err.is (same g.V.ExprVisitorMut.pre_gives (EditsOr g.V.ExprVisitorMut.post_gives) _ _ (tree_of c.index-args-i.result.value) _ _ _ _ (search rules) refl c.walk_expr_mut.ensures) c.loop-i.invariant.walked

pub walk_nodes_mut-returns : goal.walk_nodes_mut-returns
walk_nodes_mut-returns g t c = each_all g.V.ExprVisitorMut.pre_gives (EditsOr g.V.ExprVisitorMut.post_gives) tree_of c.args.nodes.now _ c.loop-i.nodes c.loop-i.i _ (omega arith) c.loop-i.invariant.walked

pub walk_nodes_mut-loop-i-preserved : goal.walk_nodes_mut-loop-i-preserved
walk_nodes_mut-loop-i-preserved g t c = record {
  walked = each_more g.V.ExprVisitorMut.pre_gives (EditsOr g.V.ExprVisitorMut.post_gives) tree_of c.args.nodes.now _ c.loop-i.nodes c.loop-i.i c.index-nodes-i.result _ _ _ _ (omega arith) c.index-nodes-i.is (c.in-Ok-true.is ∙ ap (λ b. Ok b) c.in-Ok-true.field-0-test) (same g.V.ExprVisitorMut.pre_gives (EditsOr g.V.ExprVisitorMut.post_gives) _ _ (tree_of c.index-nodes-i.result) _ _ _ _ (search rules) refl c.walk_expr_mut.ensures) c.loop-i.invariant.walked;
  rest = drop-set-lt (c.loop-i.i + 1) c.loop-i.nodes c.loop-i.i _ (omega arith) ∙ drop_more_same _ _ c.loop-i.i c.loop-i.invariant.rest;
}

pub walk_nodes_mut-returns-in-Ok-false : goal.walk_nodes_mut-returns-in-Ok-false
walk_nodes_mut-returns-in-Ok-false g t c = each_ends g.V.ExprVisitorMut.pre_gives (EditsOr g.V.ExprVisitorMut.post_gives) tree_of c.args.nodes.now _ c.loop-i.nodes c.loop-i.i c.index-nodes-i.result _ _ _ _ _ (omega arith) c.index-nodes-i.is tt (c.in-Ok-false.is ∙ ap (λ b. Ok b) c.in-Ok-false.field-0-test) (same g.V.ExprVisitorMut.pre_gives (EditsOr g.V.ExprVisitorMut.post_gives) _ _ (tree_of c.index-nodes-i.result) _ _ _ _ (search rules) refl c.walk_expr_mut.ensures) c.loop-i.invariant.walked

pub walk_nodes_mut-returns-in-Err : goal.walk_nodes_mut-returns-in-Err
walk_nodes_mut-returns-in-Err g t c = each_ends g.V.ExprVisitorMut.pre_gives (EditsOr g.V.ExprVisitorMut.post_gives) tree_of c.args.nodes.now _ c.loop-i.nodes c.loop-i.i c.index-nodes-i.result _ _ _ _ _ (omega arith) c.index-nodes-i.is tt c.in-Err.is (same g.V.ExprVisitorMut.pre_gives (EditsOr g.V.ExprVisitorMut.post_gives) _ _ (tree_of c.index-nodes-i.result) _ _ _ _ (search rules) refl c.walk_expr_mut.ensures) c.loop-i.invariant.walked

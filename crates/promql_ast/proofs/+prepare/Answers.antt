use Rattle.std.proofs.Common.{◌∙◌, ap, rules, slice_index_or, arith}
use Rattle.std.specs.Box.{with_value}
use Rattle.std.proofs.lemmas.Grind.{common_steps}
use Rattle.promql_ast.specs.View.{tree_of}
use Rattle.promql_ast.proofs.nodes.ExpressionLists.{trees_after_set}
use Rattle.promql_ast.proofs.nodes.NodeParts.{tree_of_aggregate, tree_of_call, tree_of_extension}
use Rattle.promql_ast.proofs.+prepare.Goals as goal

pub prepare::prepare_args-returns-in_err-prepare_patterns : goal.prepare::prepare_args-returns-in_err-prepare_patterns
prepare::prepare_args-returns-in_err-prepare_patterns t c =
    trees_after_set (λ b. tree_of b.value) c.loop-i.args c.loop-i.i c.index-args-i.result (with_value (slice_index_or c.loop-i.args c.loop-i.i c.index-args-i.result) c.prepare_patterns.new.self) (search rules)
    (c.prepare_patterns.ensures ∙ ap tree_of c.deref_mut.ensures.value)
    ∙ c.loop-i.invariant.same

pub prepare::prepare_args-loop-i-preserved : goal.prepare::prepare_args-loop-i-preserved
prepare::prepare_args-loop-i-preserved t c = record {
  unvisited = search rules;
  same =
      trees_after_set (λ b. tree_of b.value) c.loop-i.args c.loop-i.i c.index-args-i.result (with_value (slice_index_or c.loop-i.args c.loop-i.i c.index-args-i.result) c.prepare_patterns.new.self) (search rules)
      (c.prepare_patterns.ensures ∙ ap tree_of c.deref_mut.ensures.value)
      ∙ c.loop-i.invariant.same;
}

pub prepare::prepare_children-returns-in_err-prepare_patterns : goal.prepare::prepare_children-returns-in_err-prepare_patterns
prepare::prepare_children-returns-in_err-prepare_patterns t c =
    trees_after_set tree_of c.loop-i.children c.loop-i.i c.index-children-i.result c.prepare_patterns.new.self (search rules) c.prepare_patterns.ensures ∙ c.loop-i.invariant.same

pub prepare::prepare_children-loop-i-preserved : goal.prepare::prepare_children-loop-i-preserved
prepare::prepare_children-loop-i-preserved t c = record {
  unvisited = search rules;
  same = trees_after_set tree_of c.loop-i.children c.loop-i.i c.index-children-i.result c.prepare_patterns.new.self (search rules) c.prepare_patterns.ensures ∙ c.loop-i.invariant.same;
}

-- ---- each kind of expression

pub expr::Expr::prepare_patterns-returns-in-Aggregate : goal.expr::Expr::prepare_patterns-returns-in-Aggregate
expr::Expr::prepare_patterns-returns-in-Aggregate t c = grind (arith, tree_of_aggregate)

pub expr::Expr::prepare_patterns-returns-in-Unary : goal.expr::Expr::prepare_patterns-returns-in-Unary
expr::Expr::prepare_patterns-returns-in-Unary t c = grind (arith, common_steps)

pub expr::Expr::prepare_patterns-returns-in-Binary : goal.expr::Expr::prepare_patterns-returns-in-Binary
expr::Expr::prepare_patterns-returns-in-Binary t c = grind (arith, common_steps)

pub expr::Expr::prepare_patterns-returns-in-Paren : goal.expr::Expr::prepare_patterns-returns-in-Paren
expr::Expr::prepare_patterns-returns-in-Paren t c = grind (arith, common_steps)

pub expr::Expr::prepare_patterns-returns-in-Subquery : goal.expr::Expr::prepare_patterns-returns-in-Subquery
expr::Expr::prepare_patterns-returns-in-Subquery t c = grind (arith, common_steps)

pub expr::Expr::prepare_patterns-returns-in-VectorSelector : goal.expr::Expr::prepare_patterns-returns-in-VectorSelector
expr::Expr::prepare_patterns-returns-in-VectorSelector t c = grind (arith, common_steps)

pub expr::Expr::prepare_patterns-returns-in-MatrixSelector : goal.expr::Expr::prepare_patterns-returns-in-MatrixSelector
expr::Expr::prepare_patterns-returns-in-MatrixSelector t c = grind (arith, common_steps)

pub expr::Expr::prepare_patterns-returns-in-Call : goal.expr::Expr::prepare_patterns-returns-in-Call
expr::Expr::prepare_patterns-returns-in-Call t c = grind (arith, tree_of_call)

pub expr::Expr::prepare_patterns-returns-in-Extension : goal.expr::Expr::prepare_patterns-returns-in-Extension
expr::Expr::prepare_patterns-returns-in-Extension t c = grind (arith, tree_of_extension)

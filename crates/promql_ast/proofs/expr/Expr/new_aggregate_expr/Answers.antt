use Rattle.std.proofs.Common.{◌∙◌, ap, sym, option_map, arith}
use Rattle.std.proofs.lemmas.Grind.{common_steps}
use Rattle.promql_token.specs.Ids.{is_aggregator_with_param}
use Rattle.promql_kind.specs.ModifierViews.{clause_of}
use Rattle.promql_ast.specs.Arguments.{count}
use Rattle.promql_ast.specs.View.{tree_of, trees_of}
use Rattle.promql_ast.proofs.checking.ArgCounts.{miscounted_alone, miscounted_with}
use Rattle.promql_ast.proofs.nodes.Args.{count_more}
use Rattle.promql_ast.proofs.expr.Expr.new_aggregate_expr.Goals.{then-is_aggregator_with_param, else-is_aggregator_with_param}
use Rattle.promql_ast.proofs.expr.Expr.new_aggregate_expr.Goals as goal

pub returns-then-found-expected : goal.returns-then-found-expected
returns-then-found-expected c =
    let counted = c.len-found.ensures in
    let some = counted ∙ ap (λ xs. count (trees_of xs)) c.in-Some.ensures.items ∙ count_more (λ b. tree_of b.value) c.pop.new.self.items c.in-Some.expr in
    elim c.if-is_aggregator_with_param.branch [
      | then-is_aggregator_with_param w ↦
          miscounted_with c.args.op (option_map clause_of c.args.modifier) (trees_of c.args.args.args.items) _ _ _ _ (ap is_aggregator_with_param (sym c.new-op.ensures) ∙ sym c.is_aggregator_with_param.ensures ∙ w.if-is_aggregator_with_param.true) w.expected-is counted some
          c.if-found-expected.true c.into-then-found-expected.ensures
      | else-is_aggregator_with_param w ↦
          miscounted_alone c.args.op (option_map clause_of c.args.modifier) (trees_of c.args.args.args.items) _ _ _ _ (ap is_aggregator_with_param (sym c.new-op.ensures) ∙ sym c.is_aggregator_with_param.ensures ∙ w.if-is_aggregator_with_param.false) w.expected-is counted some
          c.if-found-expected.true c.into-then-found-expected.ensures
    ]

pub returns : goal.returns
returns c = grind (arith, common_steps)

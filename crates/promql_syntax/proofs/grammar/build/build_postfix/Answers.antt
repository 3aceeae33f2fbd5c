use Rattle.std.proofs.Common.{ℕ, ◌+◌, length, refl, Bool, arith, [], ◌∷◌}
use Rattle.promql_ast.specs.View.{tree_of}
use Rattle.promql_grammar.specs.Grammar as grammar
use Rattle.promql_grammar.specs.GrammarParts as part
use Rattle.promql_grammar.specs.GrammarParts.{yield_postfix}
use Rattle.promql_syntax.specs.ParsesExpr.{IsExprOf}
use Rattle.promql_syntax.specs.Postfixes.{IsPostfixOf}
use Rattle.promql_syntax.specs.Building.{build, build_postfix}
use Rattle.promql_syntax.proofs.building.Ending.{then_value, then_fault}
use Rattle.promql_syntax.proofs.building.BuiltForms.{is_expr_of, with_tree, with_fault, postfix_ends}
use Rattle.promql_syntax.specs.FaultTokens.{subexpressions}
use Rattle.promql_syntax.specs.Placing.{IsPostfixAt}
use Rattle.promql_syntax.proofs.answer.FaultPlacing.{own_placed, parts_built, passed_on}
use Rattle.promql_syntax.proofs.answer.OwnFaults.{if_ok_all, of_error, postfixed_tokens}
use Rattle.promql_syntax.proofs.grammar.build.build_postfix.Goals as goal

pub returns-in-Ok-clause-built : goal.returns-in-Ok-clause-built
returns-in-Ok-clause-built c =
    if_ok_all {R = λ parsed. (builds : Bool) (n k : ℕ) (d : grammar.Derivation) (p : part.Postfix) → IsPostfixAt n k c.args.extent.now p → IsExprOf builds n (length (yield_postfix p) + k) c.args.base d → IsPostfixOf n k c.args.postfix p → IsExprOf builds n k parsed (grammar.postfixed d p)} _ c.apply_postfix.ensures.built c.apply_postfix.ensures.place c.apply_postfix.ensures.tall (λ parsed value placed tall. λ builds n k d p there base held.
    is_expr_of builds n k parsed (grammar.postfixed d p) _ _ refl tall (let same = base.tall in let adds = held.adds in omega arith)
    (λ on. then_value (build d) (λ t. build_postfix t p) (tree_of c.in-Ok.expr.value) _ (with_tree c.args.base (build d) c.in-Ok.expr c.in-Ok.is (base.built on)) (postfix_ends (tree_of c.in-Ok.expr.value) p _ _ held.value value))
    (λ on built fits. own_placed n k (grammar.postfixed d p) (subexpressions (length (yield_postfix p) + k) d) parsed.value (parts_built n (subexpressions (length (yield_postfix p) + k) d) c.args.base.value c.in-Ok.expr c.in-Ok.is (base.placed on fits)) built
    (λ e is. postfixed_tokens n k d p c.args.extent.now c.args.postfix.value e there fits held.value (held.moment fits) (of_error _ parsed.value e is placed))))

pub returns-in-Err-clause-built : goal.returns-in-Err-clause-built
returns-in-Err-clause-built c = λ builds n k d p there base held.
    is_expr_of builds n k _ (grammar.postfixed d p) _ _ c.parsed_error.ensures.value c.parsed_error.ensures.tall (let same = base.tall in let adds = held.adds in omega arith)
    (λ on. then_fault (build d) (λ t. build_postfix t p) _ (with_fault c.args.base (build d) c.in-Err.error c.in-Err.is (base.built on)))
    (λ on built fits. passed_on n (subexpressions (length (yield_postfix p) + k) d) ((k, (grammar.postfixed d p)) ∷ []) _ _ c.in-Err.error c.in-Err.is c.parsed_error.ensures.is (base.placed on fits))

use Rattle.std.proofs.Common.{ℕ, ◌+◌, Bool, ◌∙◌, ap, arith, [], ◌∷◌}
use Rattle.std.specs.Prelude.{Err}
use Rattle.promql_ast.specs.View.{tree_of, trees_of}
use Rattle.promql_grammar.specs.Grammar as grammar
use Rattle.promql_grammar.specs.declared.token_kinds.TokenKind.{TokenKind}
use Rattle.promql_syntax.specs.ParsesExpr.{IsExprOf, AreArgsOf}
use Rattle.promql_kind.specs.Functions.{function_named}
use Rattle.promql_syntax.specs.Building.{build_all}
use Rattle.promql_syntax.proofs.building.Ending.{then_value, then_fault}
use Rattle.promql_syntax.proofs.building.BuiltForms.{is_expr_of, with_trees, with_no_trees, call_ends, unknown_ends}
use Rattle.promql_syntax.specs.BuildErrors.{build_error_of}
use Rattle.promql_syntax.specs.FaultTokens.{subexpressions_of}
use Rattle.promql_syntax.specs.Placing.{IsCallAt}
use Rattle.promql_syntax.proofs.answer.FaultPlacing.{no_tokens, own_placed, parts_built, passed_on}
use Rattle.promql_syntax.proofs.answer.OwnFaults.{error_placed, if_ok_all, name_tokens, none_checked, of_error}
use Rattle.promql_syntax.proofs.grammar.build.build_call.Goals as goal
use Rattle.promql_syntax.specs.PartWords.{build_call}

pub returns-in-Err-clause-built : goal.returns-in-Err-clause-built
returns-in-Err-clause-built c = λ builds n k kind ds there args.
    is_expr_of builds n k _ (grammar.call kind c.args.name.now ds) _ _ c.parsed_error.ensures.value c.parsed_error.ensures.tall (let same = args.tall in omega arith)
    (λ on. then_fault (build_all ds) (λ ts. build_call c.args.name.now (function_named c.args.name.now) ts) _ (with_no_trees c.args.args (build_all ds) c.in-Err.error c.in-Err.is (args.built on)))
    (λ on built fits. passed_on n (subexpressions_of (1 + k) ds) ((k, (grammar.call kind c.args.name.now ds)) ∷ []) _ _ c.in-Err.error c.in-Err.is c.parsed_error.ensures.is (args.placed on fits))

pub returns-in_ok-expr-in-Some-clause-built : goal.returns-in_ok-expr-in-Some-clause-built
returns-in_ok-expr-in-Some-clause-built c =
    if_ok_all {R = λ parsed. (builds : Bool) (n k : ℕ) (kind : TokenKind) (ds : grammar.Arguments) → IsCallAt n k c.args.extent.now ds → AreArgsOf builds n (1 + k) c.args.args ds → IsExprOf builds n k parsed (grammar.call kind c.args.name.now ds)} _ c.check_node.ensures.value c.check_node.ensures.kind c.check_node.ensures.tall (λ parsed value placed tall. λ builds n k kind ds there args.
    is_expr_of builds n k parsed (grammar.call kind c.args.name.now ds) _ _ value tall (let same = args.tall in omega arith)
    (λ on. then_value (build_all ds) (λ ts. build_call c.args.name.now (function_named c.args.name.now) ts) (trees_of c.in-Ok.args.args.items) _ (with_trees c.args.args (build_all ds) c.in-Ok.args c.in-Ok.is (args.built on))
    (call_ends c.args.name.now (function_named c.args.name.now) _ _ _ (rw c.in-Some.is at c.in_ok-func.ensures.found) (ap tree_of c.in_ok-expr-in-Some.ensures.ok ∙ c.new_call.ensures)))
    (λ on built fits. own_placed n k (grammar.call kind c.args.name.now ds) (subexpressions_of (1 + k) ds) parsed.value (parts_built n (subexpressions_of (1 + k) ds) c.args.args.value c.in-Ok.args c.in-Ok.is (args.placed on fits)) built
    (λ e is. no_tokens n _ e.value.place (none_checked k kind c.args.name.now ds (build_error_of e.value) (of_error _ parsed.value e is placed)))))

pub returns-in_ok-error-in-None-clause-built : goal.returns-in_ok-error-in-None-clause-built
returns-in_ok-error-in-None-clause-built c = λ builds n k kind ds there args.
    is_expr_of builds n k _ (grammar.call kind c.args.name.now ds) _ _ (c.parsed_error-in-None.ensures.value ∙ ap Err c.in_ok-error-in-None.ensures.fault) c.parsed_error-in-None.ensures.tall (let same = args.tall in omega arith)
    (λ on. then_value (build_all ds) (λ ts. build_call c.args.name.now (function_named c.args.name.now) ts) (trees_of c.in-Ok.args.args.items) _ (with_trees c.args.args (build_all ds) c.in-Ok.args c.in-Ok.is (args.built on))
    (unknown_ends c.args.name.now _ (function_named c.args.name.now) _ (rw c.in-None.is at c.in_ok-func.ensures.found) c.in_ok-name-in-None.ensures.ok))
    (λ on built fits. error_placed n k (grammar.call kind c.args.name.now ds) (subexpressions_of (1 + k) ds) _ c.in_ok-error-in-None.error c.parsed_error-in-None.ensures.is (parts_built n (subexpressions_of (1 + k) ds) c.args.args.value c.in-Ok.args c.in-Ok.is (args.placed on fits)) built
    (name_tokens n k c.args.extent.now kind c.args.name.now _ ds _ _ there fits c.in_ok-error-in-None.ensures.fault (λ few. c.in_ok-error-in-None.ensures.place ∙ c.token.ensures few)))

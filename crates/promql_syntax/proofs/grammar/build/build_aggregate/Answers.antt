use Rattle.std.proofs.Common.{◌≡◌, ◌+◌, length, Bool, ◌∙◌, ap, sym, arith, List, [], ◌∷◌, ℕ}
use Rattle.std.specs.Prelude.{option_map}
use Rattle.promql_ast.specs.Builds.{aggregate_args}
use Rattle.promql_ast.specs.View.{trees_of}
use Rattle.promql_kind.specs.ModifierViews.{clause_of}
use Rattle.promql_grammar.specs.Grammar as grammar
use Rattle.promql_grammar.specs.GrammarParts as part
use Rattle.promql_grammar.specs.GrammarParts.{yield_after}
use Rattle.promql_syntax.specs.ParsesExpr.{IsExprOf, AreArgsOf}
use Rattle.promql_syntax.specs.BuildErrors.{view_result}
use Rattle.promql_syntax.specs.Asking.{known, ◌giving◌}
use Rattle.promql_syntax.specs.Building.{build_all, from_checked_verdict}
use Rattle.promql_syntax.proofs.building.Ending.{then_value, then_fault}
use Rattle.promql_syntax.proofs.building.BuiltForms.{if_ok_both, is_expr_of, with_trees, with_no_trees, gives_or_memory, aggregate_ends, clause_fails}
use Rattle.promql_syntax.specs.FaultTokens.{subexpressions_of}
use Rattle.promql_syntax.proofs.answer.FaultPlacing.{parts_built, passed_on, whole_placed}
use Rattle.promql_syntax.proofs.grammar.build.build_aggregate.Goals as goal
use Rattle.promql_syntax.specs.PartWords.{clause_value}

pub returns-in-Err-clause-built : goal.returns-in-Err-clause-built
returns-in-Err-clause-built c = λ builds n k text cl ds clause args.
    is_expr_of builds n k _ (grammar.aggregate c.args.op text cl ds) _ _ c.parsed_error.ensures.value c.parsed_error.ensures.tall (let same = args.tall in omega arith)
    (λ on. then_fault (build_all ds) (λ ts. known (clause_value cl) giving λ m. from_checked_verdict (aggregate_args c.args.op m ts)) _ (with_no_trees c.args.args (build_all ds) c.in-Err.error c.in-Err.is (args.built on)))
    (λ on built fits. passed_on n (subexpressions_of (1 + (length (yield_after cl) + k)) ds) ((k, (grammar.aggregate c.args.op text cl ds)) ∷ []) _ _ c.in-Err.error c.in-Err.is c.parsed_error.ensures.is (args.placed on fits))

pub returns-in-Ok-clause-clause-built : goal.returns-in-Ok-clause-clause-built
returns-in-Ok-clause-clause-built c =
    if_ok_both {R = λ parsed. (builds : Bool) (n k : ℕ) (text : List ℕ) (cl : part.Clause) (ds : grammar.Arguments) → view_result (option_map clause_of) c.args.clause ≡ clause_value cl → AreArgsOf builds n (1 + (length (yield_after cl) + k)) c.args.args ds → IsExprOf builds n k parsed (grammar.aggregate c.args.op text cl ds)} _ c.check_result.ensures.value c.check_result.ensures.tall (λ parsed value tall. λ builds n k text cl ds clause args.
    is_expr_of builds n k parsed (grammar.aggregate c.args.op text cl ds) _ _ (value _ (gives_or_memory _ _ c.new_aggregate_expr-built.ensures)) tall (let same = args.tall in omega arith)
    (λ on. then_value (build_all ds) (λ ts. known (clause_value cl) giving λ m. from_checked_verdict (aggregate_args c.args.op m ts)) (trees_of c.in-Ok.args.args.items) _ (with_trees c.args.args (build_all ds) c.in-Ok.args c.in-Ok.is (args.built on))
    (aggregate_ends c.args.op cl _ _ (ap (view_result (option_map clause_of)) (sym c.in-Ok-clause.is) ∙ clause)))
    (λ on built fits. whole_placed n k (grammar.aggregate c.args.op text cl ds) (subexpressions_of (1 + (length (yield_after cl) + k)) ds) parsed.value tt (parts_built n (subexpressions_of (1 + (length (yield_after cl) + k)) ds) c.args.args.value c.in-Ok.args c.in-Ok.is (args.placed on fits)) built))

pub returns-in-Err-clause-clause-built : goal.returns-in-Err-clause-clause-built
returns-in-Err-clause-clause-built c = λ builds n k text cl ds clause args.
    is_expr_of builds n k _ (grammar.aggregate c.args.op text cl ds) _ _ c.parsed_error-in-Err-clause.ensures.value c.parsed_error-in-Err-clause.ensures.tall (let same = args.tall in omega arith)
    (λ on. then_value (build_all ds) (λ ts. known (clause_value cl) giving λ m. from_checked_verdict (aggregate_args c.args.op m ts)) (trees_of c.in-Ok.args.args.items) _ (with_trees c.args.args (build_all ds) c.in-Ok.args c.in-Ok.is (args.built on))
    (clause_fails c.args.op cl _ _ (ap (view_result (option_map clause_of)) (sym c.in-Err-clause.is) ∙ clause)))
    (λ on built fits. whole_placed n k (grammar.aggregate c.args.op text cl ds) (subexpressions_of (1 + (length (yield_after cl) + k)) ds) _ tt (parts_built n (subexpressions_of (1 + (length (yield_after cl) + k)) ds) c.args.args.value c.in-Ok.args c.in-Ok.is (args.placed on fits)) built)

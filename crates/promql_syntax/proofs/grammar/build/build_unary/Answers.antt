use Rattle.std.proofs.Common.{◌≡◌, arith, Bool, true, false, List, [], ◌∷◌, ℕ}
use Rattle.std.specs.Prelude.{◌==◌}
use Rattle.promql_token.specs.declared.ids.TheConstants.{T_SUB}
use Rattle.promql_ast.specs.View.{tree_of}
use Rattle.promql_grammar.specs.Grammar as grammar
use Rattle.promql_syntax.specs.ParsesExpr.{IsExprOf}
use Rattle.promql_syntax.specs.Building.{build}
use Rattle.promql_syntax.proofs.building.Ending.{then_value, then_fault}
use Rattle.promql_syntax.proofs.building.BuiltForms.{if_ok_both, is_expr_of, with_tree, with_fault, plus_ends, minus_ends}
use Rattle.std.proofs.lemmas.Bool.Decides.{nat_tests}
use Rattle.promql_syntax.specs.FaultTokens.{subexpressions}
use Rattle.promql_syntax.proofs.answer.FaultPlacing.{parts_built, passed_on, whole_placed}
use Rattle.promql_syntax.proofs.grammar.build.build_unary.Goals as goal
use Rattle.promql_syntax.specs.PartWords.{build_unary}

pub returns-then-op-ne-T_SUB-clause-built : goal.returns-then-op-ne-T_SUB-clause-built
returns-then-op-ne-T_SUB-clause-built c = λ builds n k text d operand.
    let other : (c.args.op == T_SUB) ≡ false = grind (arith, nat_tests) in
    is_expr_of builds n k _ (grammar.unary c.args.op text d) _ _ c.parsed_node.ensures.value c.parsed_node.ensures.tall (let same = operand.tall in omega arith)
    (λ on. then_value (build d) (λ t. build_unary c.args.op t) (tree_of c.in-Ok.expr.value) _ (with_tree c.args.operand (build d) c.in-Ok.expr c.in-Ok.is (operand.built on)) (plus_ends c.args.op _ other))
    (λ on built fits. whole_placed n k (grammar.unary c.args.op text d) (subexpressions k d) c.parsed_node.result.value tt (parts_built n (subexpressions k d) c.args.operand.value c.in-Ok.expr c.in-Ok.is (operand.placed on fits)) built)

pub returns-else-op-ne-T_SUB-clause-built : goal.returns-else-op-ne-T_SUB-clause-built
returns-else-op-ne-T_SUB-clause-built c =
    let minus : (c.args.op == T_SUB) ≡ true = grind (arith, nat_tests) in
    if_ok_both {R = λ parsed. (builds : Bool) (n k : ℕ) (text : List ℕ) (d : grammar.Derivation) → IsExprOf builds n k c.args.operand d → IsExprOf builds n k parsed (grammar.unary c.args.op text d)} _ c.check_result.ensures.value c.check_result.ensures.tall (λ parsed value tall. λ builds n k text d operand.
    is_expr_of builds n k parsed (grammar.unary c.args.op text d) _ _ (rw c.into_inner-expr.ensures at (value _ c.new_unary_expr.ensures)) tall (let same = operand.tall in omega arith)
    (λ on. then_value (build d) (λ t. build_unary c.args.op t) (tree_of c.in-Ok.expr.value) _ (with_tree c.args.operand (build d) c.in-Ok.expr c.in-Ok.is (operand.built on)) (minus_ends c.args.op (tree_of c.in-Ok.expr.value) minus))
    (λ on built fits. whole_placed n k (grammar.unary c.args.op text d) (subexpressions k d) parsed.value tt (parts_built n (subexpressions k d) c.args.operand.value c.in-Ok.expr c.in-Ok.is (operand.placed on fits)) built))

pub returns-in-Err-clause-built : goal.returns-in-Err-clause-built
returns-in-Err-clause-built c = λ builds n k text d operand.
    is_expr_of builds n k _ (grammar.unary c.args.op text d) _ _ c.parsed_error.ensures.value c.parsed_error.ensures.tall (let same = operand.tall in omega arith)
    (λ on. then_fault (build d) (λ t. build_unary c.args.op t) _ (with_fault c.args.operand (build d) c.in-Err.error c.in-Err.is (operand.built on)))
    (λ on built fits. passed_on n (subexpressions k d) ((k, (grammar.unary c.args.op text d)) ∷ []) _ _ c.in-Err.error c.in-Err.is c.parsed_error.ensures.is (operand.placed on fits))

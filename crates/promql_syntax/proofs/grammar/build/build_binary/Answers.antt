use Rattle.std.proofs.Common.{◌≡◌, ◌++◌, subst, sym, Bool, ◌&&◌, refl, ◌∙◌, ap, arith, append_assoc, None, List, [], ◌∷◌, ℕ}
use Rattle.std.proofs.lemmas.List.Elements.{All-append}
use Rattle.std.specs.Prelude.{is_ok}
use Rattle.promql_ast.specs.Checked.{check_tree}
use Rattle.promql_ast.specs.Tree as tree
use Rattle.promql_ast.specs.View.{tree_of}
use Rattle.promql_grammar.specs.Grammar as grammar
use Rattle.promql_grammar.specs.GrammarParts as part
use Rattle.promql_syntax.specs.ParsesExpr.{IsExprOf, IsPlaced, modifier_of}
use Rattle.promql_syntax.specs.Asking.{known, ◌giving◌}
use Rattle.promql_syntax.specs.Building.{build, from_verdict}
use Rattle.promql_syntax.specs.PartBuilding.{modifier_value}
use Rattle.promql_syntax.proofs.building.Ending.{then_value, then_fault}
use Rattle.promql_syntax.proofs.building.BuiltForms.{goes_on, is_expr_of, with_tree, with_fault, binary_ends}
use Rattle.promql_syntax.specs.BuildErrors.{build_error_of}
use Rattle.promql_syntax.specs.FaultTokens.{Builds, subexpressions}
use Rattle.promql_syntax.specs.Placing.{HasModifierPlace, IsModifierAt, left_after}
use Rattle.promql_syntax.proofs.answer.FaultPlacing.{own_placed, parts_built, passed_on, second_placed}
use Rattle.promql_syntax.proofs.answer.OwnFaults.{if_ok_all, modified_tokens, modifier_tokens, of_error}
use Rattle.promql_syntax.proofs.grammar.build.build_binary.Goals as goal

pub returns-in-Err-clause-built : goal.returns-in-Err-clause-built
returns-in-Err-clause-built c = λ builds n k text m l r there modifier left right.
    is_expr_of builds n k _ (grammar.binary c.args.op text m l r) _ _ c.parsed_error.ensures.value c.parsed_error.ensures.tall (let one = left.tall in let other = right.tall in let high = c.max-height.ensures in omega arith)
    (λ on. then_fault (build l) (λ x. build r giving λ y. known (modifier_value m) giving λ z. from_verdict (check_tree (tree.binary c.args.op x y z))) _ (with_fault c.args.left (build l) c.in-Err.error c.in-Err.is (left.built on)))
    (λ on built fits. subst (λ subs. IsPlaced n subs c.parsed_error.result.value) (sym (append_assoc (subexpressions (left_after k m r) l) (subexpressions k r) ((k, (grammar.binary c.args.op text m l r)) ∷ [])))
    (passed_on n (subexpressions (left_after k m r) l) ((subexpressions k r) ++ (k, (grammar.binary c.args.op text m l r)) ∷ []) _ _ c.in-Err.error c.in-Err.is c.parsed_error.ensures.is (left.placed on fits)))

pub returns-in-Err-right-clause-built : goal.returns-in-Err-right-clause-built
returns-in-Err-right-clause-built c = λ builds n k text m l r there modifier left right.
    is_expr_of builds n k _ (grammar.binary c.args.op text m l r) _ _ c.parsed_error-in-Err-right.ensures.value c.parsed_error-in-Err-right.ensures.tall (let one = left.tall in let other = right.tall in let high = c.max-height.ensures in omega arith)
    (λ on. then_value (build l) (λ x. build r giving λ y. known (modifier_value m) giving λ z. from_verdict (check_tree (tree.binary c.args.op x y z))) (tree_of c.in-Ok.expr.value) _ (with_tree c.args.left (build l) c.in-Ok.expr c.in-Ok.is (left.built on))
    (then_fault (build r) (λ y. known (modifier_value m) giving λ z. from_verdict (check_tree (tree.binary c.args.op (tree_of c.in-Ok.expr.value) y z))) _ (with_fault c.args.right (build r) c.in-Err-right.error c.in-Err-right.is (right.built (goes_on builds _ _ c.in-Ok.is on)))))
    (λ on built fits. passed_on n ((subexpressions (left_after k m r) l) ++ (subexpressions k r)) ((k, (grammar.binary c.args.op text m l r)) ∷ []) _ _ c.in-Err-right.error c.in-Err-right.is c.parsed_error-in-Err-right.ensures.is
    (second_placed n (subexpressions (left_after k m r) l) (subexpressions k r) c.args.right.value (parts_built n (subexpressions (left_after k m r) l) c.args.left.value c.in-Ok.expr c.in-Ok.is (left.placed on fits)) (right.placed (goes_on builds _ _ c.in-Ok.is on) fits)))

pub returns-in_ok-expr-in-None-clause-built : goal.returns-in_ok-expr-in-None-clause-built
returns-in_ok-expr-in-None-clause-built c =
    if_ok_all {R = λ parsed. (builds : Bool) (n k : ℕ) (text : List ℕ) (m : part.Modifier) (l r : grammar.Derivation) → IsModifierAt n k c.args.extent.now m r → modifier_of c.args.modifier ≡ modifier_value m → IsExprOf builds n (left_after k m r) c.args.left l → IsExprOf (builds && is_ok c.args.left.value) n k c.args.right r → IsExprOf builds n k parsed (grammar.binary c.args.op text m l r)} _ c.check_node.ensures.value c.check_node.ensures.place c.check_node.ensures.tall (λ parsed value placed tall. λ builds n k text m l r there modifier left right.
    is_expr_of builds n k parsed (grammar.binary c.args.op text m l r) _ _ value tall (let one = left.tall in let other = right.tall in let high = c.max-height.ensures in omega arith)
    (λ on. then_value (build l) (λ x. build r giving λ y. known (modifier_value m) giving λ z. from_verdict (check_tree (tree.binary c.args.op x y z))) (tree_of c.in-Ok.expr.value) _ (with_tree c.args.left (build l) c.in-Ok.expr c.in-Ok.is (left.built on))
    (then_value (build r) (λ y. known (modifier_value m) giving λ z. from_verdict (check_tree (tree.binary c.args.op (tree_of c.in-Ok.expr.value) y z))) (tree_of c.in-Ok-right.expr.value) _ (with_tree c.args.right (build r) c.in-Ok-right.expr c.in-Ok-right.is (right.built (goes_on builds _ _ c.in-Ok.is on)))
    (binary_ends c.args.op m None (tree_of c.in-Ok.expr.value) (tree_of c.in-Ok-right.expr.value) _ (rw c.in-None.is at modifier) (ap tree_of c.in_ok-expr-in-None.ensures.ok ∙ ap (λ o. tree.binary o (tree_of c.in-Ok.expr.value) (tree_of c.in-Ok-right.expr.value) None) c.new-op.ensures))))
    (λ on built fits. own_placed n k (grammar.binary c.args.op text m l r) ((subexpressions (left_after k m r) l) ++ (subexpressions k r)) parsed.value (All-append Builds (subexpressions (left_after k m r) l) (subexpressions k r) (parts_built n (subexpressions (left_after k m r) l) c.args.left.value c.in-Ok.expr c.in-Ok.is (left.placed on fits)) (parts_built n (subexpressions k r) c.args.right.value c.in-Ok-right.expr c.in-Ok-right.is (right.placed (goes_on builds _ _ c.in-Ok.is on) fits))) built
    (λ e is. modifier_tokens k c.args.op text m l r n c.args.extent.now there fits (tree_of c.in-Ok.expr.value) (tree_of c.in-Ok-right.expr.value) None (build_error_of e.value) e.value.place
    (subst (λ t. HasModifierPlace t c.args.extent.now e) (ap tree_of c.in_ok-expr-in-None.ensures.ok ∙ ap (λ o. tree.binary o (tree_of c.in-Ok.expr.value) (tree_of c.in-Ok-right.expr.value) None) c.new-op.ensures) (of_error _ parsed.value e is placed)))))

pub returns-in-Some-clause-built : goal.returns-in-Some-clause-built
returns-in-Some-clause-built c =
    if_ok_all {R = λ parsed. (builds : Bool) (n k : ℕ) (text : List ℕ) (m : part.Modifier) (l r : grammar.Derivation) → IsModifierAt n k c.args.extent.now m r → modifier_of c.args.modifier ≡ modifier_value m → IsExprOf builds n (left_after k m r) c.args.left l → IsExprOf (builds && is_ok c.args.left.value) n k c.args.right r → IsExprOf builds n k parsed (grammar.binary c.args.op text m l r)} _ c.build_modified_binary.ensures.value c.build_modified_binary.ensures.place c.build_modified_binary.ensures.tall (λ parsed value placed tall. λ builds n k text m l r there modifier left right.
    is_expr_of builds n k parsed (grammar.binary c.args.op text m l r) _ _ refl tall (let one = left.tall in let other = right.tall in let high = c.max-height.ensures in omega arith)
    (λ on. then_value (build l) (λ x. build r giving λ y. known (modifier_value m) giving λ z. from_verdict (check_tree (tree.binary c.args.op x y z))) (tree_of c.in-Ok.expr.value) _ (with_tree c.args.left (build l) c.in-Ok.expr c.in-Ok.is (left.built on))
    (then_value (build r) (λ y. known (modifier_value m) giving λ z. from_verdict (check_tree (tree.binary c.args.op (tree_of c.in-Ok.expr.value) y z))) (tree_of c.in-Ok-right.expr.value) _ (with_tree c.args.right (build r) c.in-Ok-right.expr c.in-Ok-right.is (right.built (goes_on builds _ _ c.in-Ok.is on)))
    (rw c.new-op.ensures at (value m (rw c.in-Some.is at modifier)))))
    (λ on built fits. own_placed n k (grammar.binary c.args.op text m l r) ((subexpressions (left_after k m r) l) ++ (subexpressions k r)) parsed.value (All-append Builds (subexpressions (left_after k m r) l) (subexpressions k r) (parts_built n (subexpressions (left_after k m r) l) c.args.left.value c.in-Ok.expr c.in-Ok.is (left.placed on fits)) (parts_built n (subexpressions k r) c.args.right.value c.in-Ok-right.expr c.in-Ok-right.is (right.placed (goes_on builds _ _ c.in-Ok.is on) fits))) built
    (λ e is. modified_tokens k c.args.op text m l r n c.args.extent.now there fits (tree_of c.in-Ok.expr.value) (tree_of c.in-Ok-right.expr.value) c.in-Some.modifier.value e (rw c.in-Some.is at modifier) (of_error _ parsed.value e is placed))))

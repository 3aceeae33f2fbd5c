use Rattle.std.proofs.Common.{◌≡◌, ◌∙◌, ap, subst, sym, Some}
use Rattle.std.specs.Prelude.{IfErr, IfOk, MatchResult}
use Rattle.promql_ast.specs.Checked.{check_tree}
use Rattle.promql_ast.specs.Tree as tree
use Rattle.promql_ast.specs.View.{tree_of}
use Rattle.promql_grammar.specs.GrammarParts as part
use Rattle.promql_kind.specs.ModifierViews.{matching_of}
use Rattle.promql_syntax.specs.Asking.{Asking, known, ◌giving◌, EndsIn}
use Rattle.promql_syntax.specs.Building.{from_verdict}
use Rattle.promql_syntax.specs.BuildErrors.{view_result}
use Rattle.promql_syntax.specs.Placing.{HasModifierPlace}
use Rattle.promql_syntax.specs.ParsesExpr.{tree_result, modifier_of}
use Rattle.promql_syntax.specs.PartBuilding.{modifier_value}
use Rattle.promql_syntax.proofs.building.BuiltForms.{if_ok_both, binary_ends, modifier_fails}
use Rattle.promql_syntax.proofs.grammar.build.build_modified_binary.Goals as goal

pub returns-in_ok-expr-in-Ok-clause-value : goal.returns-in_ok-expr-in-Ok-clause-value
returns-in_ok-expr-in-Ok-clause-value c =
    let building : part.Modifier → Asking tree.Tree = λ m. known (modifier_value m) giving λ z. from_verdict (check_tree (tree.binary c.args.op (tree_of c.args.lhs.value) (tree_of c.args.rhs.value) z)) in
    if_ok_both {R = λ parsed. (m : part.Modifier) → modifier_of (Some c.args.modifier) ≡ modifier_value m → EndsIn (building m) (tree_result parsed)} _ c.check_node.ensures.value c.check_node.ensures.tall (λ parsed value tall. λ m modifier.
    subst (EndsIn (building m)) (sym value)
    (binary_ends c.args.op m (Some (matching_of c.in-Ok.modifier)) _ _ _ (ap (view_result (λ x. Some (matching_of x))) c.in-Ok.ensures ∙ modifier) (ap tree_of c.in_ok-expr-in-Ok.ensures.ok)))

pub returns-in-Err-clause-value : goal.returns-in-Err-clause-value
returns-in-Err-clause-value c = λ m modifier.
    let building : Asking tree.Tree = known (modifier_value m) giving λ z. from_verdict (check_tree (tree.binary c.args.op (tree_of c.args.lhs.value) (tree_of c.args.rhs.value) z)) in
    subst (EndsIn building) (sym c.parsed_error.ensures.value)
    (modifier_fails c.args.op m _ (tree_of c.args.lhs.value) (tree_of c.args.rhs.value) (ap (view_result (λ x. Some (matching_of x))) c.in-Err.ensures ∙ modifier))

pub returns-in_ok-expr-in-Ok-clause-place : goal.returns-in_ok-expr-in-Ok-clause-place
returns-in_ok-expr-in-Ok-clause-place c =
    subst (λ h. IfOk c.check_node.result (λ parsed. IfErr parsed.value (λ error. MatchResult h
    (λ m. HasModifierPlace (tree.binary c.args.op (tree_of c.args.lhs.value) (tree_of c.args.rhs.value) (Some (matching_of m))) c.args.extent.now error)
    (λ held. error ≡ held)))) c.in-Ok.ensures
    (subst (λ t. IfOk c.check_node.result (λ parsed. IfErr parsed.value (HasModifierPlace t c.args.extent.now))) (ap tree_of c.in_ok-expr-in-Ok.ensures.ok) c.check_node.ensures.place)

use Rattle.std.proofs.Common.{◌∙◌, ap, sym, None, refl, Some, codes}
use Rattle.serde_json.specs.View.{members_view}
use Rattle.promql_from_json.proofs.ReadForms.{err_within, rest_of}
use Rattle.promql_from_json.specs.FormMisfits.{by_row, node_named, one, or_null}
use Rattle.promql_from_json.specs.declared.from_error.Expected.TheVariants.{Millis, Length}
use Rattle.promql_from_json.proofs.ErrorPlaces.{same_type}
use Rattle.promql_from_json.proofs.read_nodes.subquery_parts.Goals as goal

pub returns-in_err-start_or_end-clause-err : goal.returns-in_err-start_or_end-clause-err
returns-in_err-start_or_end-clause-err c =
    err_within _ c.from_residual-in_err-start_or_end.result c.in_err-start_or_end.field-0.0 c.from_residual-in_err-start_or_end.ensures.1
    (λ other expr offset at range step fine h. c.in_err-start_or_end.ensures.err other _ _ _ _
    (ap (λ ms. rest_of (rest_of (rest_of ms))) (sym c.in_ok-expr.ensures.ok ∙ ap members_view c.new-fields.ensures.all ∙ h)))

pub returns-in_err-node-clause-err : goal.returns-in_err-node-clause-err
returns-in_err-node-clause-err c =
    err_within _ c.from_residual-in_err-node.result c.in_err-node.field-0.0 c.from_residual-in_err-node.ensures.1
    (λ other expr offset at range step fine h. c.in_err-node.ensures.err other _ _
    (ap (λ ms. rest_of (rest_of (rest_of ms))) (sym c.in_ok-start_or_end.ensures.ok
    ∙ ap (λ ms. rest_of (rest_of (rest_of ms))) (sym c.in_ok-expr.ensures.ok ∙ ap members_view c.new-fields.ensures.all ∙ h))))

pub returns-in_err-expr-clause-place : goal.returns-in_err-expr-clause-place
returns-in_err-expr-clause-place c =
    err_within _ c.from_residual.result c.in_err-expr.field-0.0 c.from_residual.ensures.1
    (λ n is. c.in_err-expr.ensures.place (node_named (codes "subquery") n) _ (c.new-fields.ensures.left (node_named (codes "subquery") n) (codes "expr") refl) refl)

pub returns-in_err-start_or_end-clause-place : goal.returns-in_err-start_or_end-clause-place
returns-in_err-start_or_end-clause-place c =
    err_within _ c.from_residual-in_err-start_or_end.result c.in_err-start_or_end.field-0.0 c.from_residual-in_err-start_or_end.ensures.1
    (λ n is. c.in_err-start_or_end.ensures.place (node_named (codes "subquery") n) _ ((c.in_ok-expr.ensures.left (node_named (codes "subquery") n) _ (c.new-fields.ensures.left (node_named (codes "subquery") n) (codes "expr") refl) refl).3 (Some (codes "startOrEnd")) refl) refl)

pub returns-in_err-node-clause-place : goal.returns-in_err-node-clause-place
returns-in_err-node-clause-place c =
    err_within _ c.from_residual-in_err-node.result c.in_err-node.field-0.0 c.from_residual-in_err-node.ensures.1
    (λ n is. c.in_err-node.ensures.place (node_named (codes "subquery") n) _ ((c.in_ok-start_or_end.ensures.left (node_named (codes "subquery") n) _ ((c.in_ok-expr.ensures.left (node_named (codes "subquery") n) _ (c.new-fields.ensures.left (node_named (codes "subquery") n) (codes "expr") refl) refl).3 (Some (codes "startOrEnd")) refl) refl).3 (Some (codes "type")) refl) refl)

pub returns-in_err-end_of_node-clause-place : goal.returns-in_err-end_of_node-clause-place
returns-in_err-end_of_node-clause-place c =
    err_within _ c.from_residual-in_err-end_of_node.result c.in_err-end_of_node.field-0.0 c.from_residual-in_err-end_of_node.ensures.1
    (λ n is. c.in_err-end_of_node.ensures.place (node_named (codes "subquery") n) _ ((c.in_ok-node.ensures.left (node_named (codes "subquery") n) _ ((c.in_ok-start_or_end.ensures.left (node_named (codes "subquery") n) _ ((c.in_ok-expr.ensures.left (node_named (codes "subquery") n) _ (c.new-fields.ensures.left (node_named (codes "subquery") n) (codes "expr") refl) refl).3 (Some (codes "startOrEnd")) refl) refl).3 (Some (codes "type")) refl)).1 None refl) (same_type _ _ _ (c.in_ok-node.ensures.left (node_named (codes "subquery") n) _ ((c.in_ok-start_or_end.ensures.left (node_named (codes "subquery") n) _ ((c.in_ok-expr.ensures.left (node_named (codes "subquery") n) _ (c.new-fields.ensures.left (node_named (codes "subquery") n) (codes "expr") refl) refl).3 (Some (codes "startOrEnd")) refl) refl).3 (Some (codes "type")) refl)).0 is))

pub returns-in-Err-clause-place : goal.returns-in-Err-clause-place
returns-in-Err-clause-place c = λ n is. c.inside.ensures.place (node_named (codes "subquery") n) (one Millis) _ _ (by_row (node_named (codes "subquery") n) (one Millis) _ (codes "offset") refl) (c.in_ok-expr.ensures.left (node_named (codes "subquery") n) _ (c.new-fields.ensures.left (node_named (codes "subquery") n) (codes "expr") refl) refl).1 c.in-Err.ensures.place

pub returns-in-Err-read_length-clause-place : goal.returns-in-Err-read_length-clause-place
returns-in-Err-read_length-clause-place c = λ n is. c.inside-in-Err-read_length.ensures.place (node_named (codes "subquery") n) (one Length) _ _ (by_row (node_named (codes "subquery") n) (one Length) _ (codes "range") refl) (c.in_ok-expr.ensures.left (node_named (codes "subquery") n) _ (c.new-fields.ensures.left (node_named (codes "subquery") n) (codes "expr") refl) refl).2 (c.in-Err-read_length.ensures.place c.in-Err-read_length.ensures.err)

pub returns-in-Err-read_step-clause-place : goal.returns-in-Err-read_step-clause-place
returns-in-Err-read_step-clause-place c = λ n is. c.inside-in-Err-read_step.ensures.place (node_named (codes "subquery") n) (or_null (one Length)) _ _ (by_row (node_named (codes "subquery") n) (or_null (one Length)) _ (codes "step") refl) (c.in_ok-start_or_end.ensures.left (node_named (codes "subquery") n) _ ((c.in_ok-expr.ensures.left (node_named (codes "subquery") n) _ (c.new-fields.ensures.left (node_named (codes "subquery") n) (codes "expr") refl) refl).3 (Some (codes "startOrEnd")) refl) refl).1 c.in-Err-read_step.ensures.place

pub returns-in_err-at-clause-place : goal.returns-in_err-at-clause-place
returns-in_err-at-clause-place c =
    err_within _ c.from_residual-in_err-at.result c.in_err-at.field-0.0 c.from_residual-in_err-at.ensures.1
    (λ n is. c.in_err-at.ensures.place (node_named (codes "subquery") n) _ refl refl (c.in_ok-start_or_end.ensures.left (node_named (codes "subquery") n) _ ((c.in_ok-expr.ensures.left (node_named (codes "subquery") n) _ (c.new-fields.ensures.left (node_named (codes "subquery") n) (codes "expr") refl) refl).3 (Some (codes "startOrEnd")) refl) refl).0 (c.in_ok-start_or_end.ensures.left (node_named (codes "subquery") n) _ ((c.in_ok-expr.ensures.left (node_named (codes "subquery") n) _ (c.new-fields.ensures.left (node_named (codes "subquery") n) (codes "expr") refl) refl).3 (Some (codes "startOrEnd")) refl) refl).2)

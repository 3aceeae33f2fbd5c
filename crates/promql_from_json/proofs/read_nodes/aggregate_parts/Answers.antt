use Rattle.std.proofs.Common.{◌∙◌, ap, sym, None, refl, Some, codes}
use Rattle.serde_json.specs.View.{members_view}
use Rattle.promql_from_json.proofs.ReadForms.{err_within, rest_of}
use Rattle.promql_from_json.specs.FormMisfits.{node_named}
use Rattle.promql_from_json.proofs.ErrorPlaces.{same_type}
use Rattle.promql_from_json.proofs.read_nodes.aggregate_parts.Goals as goal

pub returns-in_err-expr-clause-err : goal.returns-in_err-expr-clause-err
returns-in_err-expr-clause-err c =
    err_within _ c.from_residual.result c.in_err-expr.field-0.0 c.from_residual.ensures.1
    (λ other expr grouping op param without h. c.in_err-expr.ensures.err other expr grouping op _ (ap members_view c.new-fields.ensures.all ∙ h))

pub returns-in_err-param-clause-err : goal.returns-in_err-param-clause-err
returns-in_err-param-clause-err c =
    err_within _ c.from_residual-in_err-param.result c.in_err-param.field-0.0 c.from_residual-in_err-param.ensures.1
    (λ other expr grouping op param without h. c.in_err-param.ensures.err other param _ without _
    (ap (λ m. rest_of (rest_of (rest_of m))) (sym c.in_ok-expr.ensures.ok ∙ ap members_view c.new-fields.ensures.all ∙ h)))

pub returns-in_err-expr-clause-place : goal.returns-in_err-expr-clause-place
returns-in_err-expr-clause-place c =
    err_within _ c.from_residual.result c.in_err-expr.field-0.0 c.from_residual.ensures.1
    (λ n is. c.in_err-expr.ensures.place (node_named (codes "aggregation") n) _ (c.new-fields.ensures.left (node_named (codes "aggregation") n) (codes "expr") refl) refl)

pub returns-in_err-param-clause-place : goal.returns-in_err-param-clause-place
returns-in_err-param-clause-place c =
    err_within _ c.from_residual-in_err-param.result c.in_err-param.field-0.0 c.from_residual-in_err-param.ensures.1
    (λ n is. c.in_err-param.ensures.place (node_named (codes "aggregation") n) _ ((c.in_ok-expr.ensures.left (node_named (codes "aggregation") n) _ (c.new-fields.ensures.left (node_named (codes "aggregation") n) (codes "expr") refl) refl).3 (Some (codes "param")) refl) refl)

pub returns-in_err-end_of_node-clause-place : goal.returns-in_err-end_of_node-clause-place
returns-in_err-end_of_node-clause-place c =
    err_within _ c.from_residual-in_err-end_of_node.result c.in_err-end_of_node.field-0.0 c.from_residual-in_err-end_of_node.ensures.1
    (λ n is. c.in_err-end_of_node.ensures.place (node_named (codes "aggregation") n) _ ((c.in_ok-param.ensures.left (node_named (codes "aggregation") n) _ ((c.in_ok-expr.ensures.left (node_named (codes "aggregation") n) _ (c.new-fields.ensures.left (node_named (codes "aggregation") n) (codes "expr") refl) refl).3 (Some (codes "param")) refl) refl).3 None refl) (same_type _ _ _ (c.in_ok-param.ensures.left (node_named (codes "aggregation") n) _ ((c.in_ok-expr.ensures.left (node_named (codes "aggregation") n) _ (c.new-fields.ensures.left (node_named (codes "aggregation") n) (codes "expr") refl) refl).3 (Some (codes "param")) refl) refl).1 is))

use Rattle.std.proofs.Common.{◌∙◌, ap, None, refl, Some, codes}
use Rattle.serde_json.specs.View.{members_view}
use Rattle.promql_from_json.proofs.ReadForms.{err_within}
use Rattle.promql_from_json.specs.FormMisfits.{node_named}
use Rattle.promql_from_json.proofs.ErrorPlaces.{same_type}
use Rattle.promql_from_json.proofs.read_nodes.binary_parts.Goals as goal

pub returns-in_err-is_bool-clause-err : goal.returns-in_err-is_bool-clause-err
returns-in_err-is_bool-clause-err c =
    err_within _ c.from_residual.result c.in_err-is_bool.field-0.0 c.from_residual.ensures.1
    (λ other is_bool lhs matching op rhs h. c.in_err-is_bool.ensures.err other is_bool lhs matching _ (ap members_view c.new-fields.ensures.all ∙ h))

pub returns-in_err-is_bool-clause-place : goal.returns-in_err-is_bool-clause-place
returns-in_err-is_bool-clause-place c =
    err_within _ c.from_residual.result c.in_err-is_bool.field-0.0 c.from_residual.ensures.1
    (λ n is. c.in_err-is_bool.ensures.place (node_named (codes "binaryExpr") n) _ (c.new-fields.ensures.left (node_named (codes "binaryExpr") n) (codes "bool") refl) refl)

pub returns-in_err-op-clause-place : goal.returns-in_err-op-clause-place
returns-in_err-op-clause-place c =
    err_within _ c.from_residual-in_err-op.result c.in_err-op.field-0.0 c.from_residual-in_err-op.ensures.1
    (λ n is. c.in_err-op.ensures.place (node_named (codes "binaryExpr") n) _ ((c.in_ok-is_bool.ensures.left (node_named (codes "binaryExpr") n) _ (c.new-fields.ensures.left (node_named (codes "binaryExpr") n) (codes "bool") refl) refl).3 (Some (codes "op")) refl) refl)

pub returns-in_err-end_of_node-clause-place : goal.returns-in_err-end_of_node-clause-place
returns-in_err-end_of_node-clause-place c =
    err_within _ c.from_residual-in_err-end_of_node.result c.in_err-end_of_node.field-0.0 c.from_residual-in_err-end_of_node.ensures.1
    (λ n is. c.in_err-end_of_node.ensures.place (node_named (codes "binaryExpr") n) _ ((c.in_ok-op.ensures.left (node_named (codes "binaryExpr") n) _ ((c.in_ok-is_bool.ensures.left (node_named (codes "binaryExpr") n) _ (c.new-fields.ensures.left (node_named (codes "binaryExpr") n) (codes "bool") refl) refl).3 (Some (codes "op")) refl) refl).3 None refl) (same_type _ _ _ (c.in_ok-op.ensures.left (node_named (codes "binaryExpr") n) _ ((c.in_ok-is_bool.ensures.left (node_named (codes "binaryExpr") n) _ (c.new-fields.ensures.left (node_named (codes "binaryExpr") n) (codes "bool") refl) refl).3 (Some (codes "op")) refl) refl).2 is))

use Rattle.promql_from_json.proofs.ReadForms.{err_within}
use Rattle.std.proofs.Common.{None, refl, codes}
use Rattle.promql_from_json.specs.FormMisfits.{by_row, node_named, word}
use Rattle.promql_from_json.specs.declared.from_error.Expected.TheVariants.{Number}
use Rattle.promql_from_json.proofs.ErrorPlaces.{same_type}
use Rattle.promql_from_json.proofs.read_nodes.read_number_literal.Goals as goal

pub returns-in_err-node-clause-place : goal.returns-in_err-node-clause-place
returns-in_err-node-clause-place c =
    err_within _ c.from_residual.result c.in_err-node.field-0.0 c.from_residual.ensures.1
    (λ n is. c.in_err-node.ensures.place (node_named (codes "numberLiteral") n) _ (c.new-fields.ensures.left (node_named (codes "numberLiteral") n) (codes "type") refl) refl)

pub returns-in_err-end_of_node-clause-place : goal.returns-in_err-end_of_node-clause-place
returns-in_err-end_of_node-clause-place c =
    err_within _ c.from_residual-in_err-end_of_node.result c.in_err-end_of_node.field-0.0 c.from_residual-in_err-end_of_node.ensures.1
    (λ n is. c.in_err-end_of_node.ensures.place (node_named (codes "numberLiteral") n) _ ((c.in_ok-node.ensures.left (node_named (codes "numberLiteral") n) _ (c.new-fields.ensures.left (node_named (codes "numberLiteral") n) (codes "type") refl) refl).2 None refl) (same_type _ _ _ (c.in_ok-node.ensures.left (node_named (codes "numberLiteral") n) _ (c.new-fields.ensures.left (node_named (codes "numberLiteral") n) (codes "type") refl) refl).0 is))

pub returns-in-Err-clause-place : goal.returns-in-Err-clause-place
returns-in-Err-clause-place c = λ n is.
    c.inside.ensures.place (node_named (codes "numberLiteral") n) (word Number) _ _ (by_row (node_named (codes "numberLiteral") n) (word Number) _ (codes "val") refl) (c.in_ok-node.ensures.left (node_named (codes "numberLiteral") n) _ (c.new-fields.ensures.left (node_named (codes "numberLiteral") n) (codes "type") refl) refl).1 c.in-Err.ensures.place

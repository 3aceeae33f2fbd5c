use Rattle.promql_from_json.proofs.ReadForms.{err_within}
use Rattle.promql_from_json.proofs.fields.Fields.end_of_node.Goals as goal

pub returns-in_err-end-clause-place : goal.returns-in_err-end-clause-place
returns-in_err-end-clause-place c =
    err_within _ c.from_residual.result c.in_err-end.field-0.0 c.from_residual.ensures.1 (λ f d left is. c.in_err-end.ensures.place f d left)

pub returns-in-Err-clause-place : goal.returns-in-Err-clause-place
returns-in-Err-clause-place c = λ f d left is. absurd (c.in-Err.ensures.err is)

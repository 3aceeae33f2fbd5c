use Rattle.std.proofs.lemmas.Result.{IfErr-weaker}
use Rattle.std.proofs.Common.{None}
use Rattle.promql_from_json.proofs.ReadForms.{err_within}
use Rattle.promql_from_json.proofs.ErrorPlaces.{same_type}
use Rattle.promql_from_json.proofs.read_selectors.read_end.Goals as goal

pub returns-in_err-start_or_end-clause-err : goal.returns-in_err-start_or_end-clause-err
returns-in_err-start_or_end-clause-err c =
    err_within _ c.from_residual.result c.in_err-start_or_end.field-0.0 c.from_residual.ensures.1
    (λ other at fine h. c.in_err-start_or_end.ensures.err other _ _ _ _ h)

pub returns-in_err-start_or_end-clause-place : goal.returns-in_err-start_or_end-clause-place
returns-in_err-start_or_end-clause-place c =
    err_within _ c.from_residual.result c.in_err-start_or_end.field-0.0 c.from_residual.ensures.1
    (λ f d ends left is. c.in_err-start_or_end.ensures.place f d left ends.0)

pub returns-in_err-end_of_node-clause-place : goal.returns-in_err-end_of_node-clause-place
returns-in_err-end_of_node-clause-place c =
    err_within _ c.from_residual-in_err-end_of_node.result c.in_err-end_of_node.field-0.0 c.from_residual-in_err-end_of_node.ensures.1
    (λ f d ends left is. c.in_err-end_of_node.ensures.place f d ((c.in_ok-start_or_end.ensures.left f d left ends.0).3 None ends.1) (same_type _ _ _ ((c.in_ok-start_or_end.ensures.left f d left ends.0).2) is))

pub returns-clause-place : goal.returns-clause-place
returns-clause-place c =
    IfErr-weaker c.read_at.result _ _ (λ e place f d ends left is. place f d ends.2 ends.3 (c.in_ok-start_or_end.ensures.left f d left ends.0).0 (c.in_ok-start_or_end.ensures.left f d left ends.0).1) c.read_at.ensures.place

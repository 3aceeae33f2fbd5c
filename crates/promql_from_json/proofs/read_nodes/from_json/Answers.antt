use Rattle.promql_from_json.proofs.FaultsOfForms.{faults_of_nodes}
use Rattle.promql_from_json.proofs.ReadForms.{err_from}
use Rattle.promql_from_json.proofs.ReadableTrees.{no_form_below}
use Rattle.promql_from_json.specs.FormMisfits.{node}
use Rattle.promql_from_json.proofs.read_nodes.from_json.Goals as goal

pub returns-in_err-read_expr-clause-err : goal.returns-in_err-read_expr-clause-err
returns-in_err-read_expr-clause-err c =
    err_from _ _ c.from_residual.result c.from_residual.ensures.1
    (λ e gives other. no_form_below _ (c.in_err-read_expr.ensures.err (λ m. other (gives.0 m))))

pub returns-in_err-read_expr-clause-place : goal.returns-in_err-read_expr-clause-place
returns-in_err-read_expr-clause-place c =
    err_from _ _ c.from_residual.result c.from_residual.ensures.1
    (λ e gives m is. faults_of_nodes 512 _ _ _ (gives.2 (node 512) _ m c.in_err-read_expr.ensures.place is))

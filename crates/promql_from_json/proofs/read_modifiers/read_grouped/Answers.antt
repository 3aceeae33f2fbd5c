use Rattle.promql_from_json.proofs.ReadForms.{err_within}
use Rattle.std.proofs.Common.{None}
use Rattle.promql_from_json.specs.FormMisfits.{by_row, grouped, labels}
use Rattle.promql_from_json.proofs.read_modifiers.read_grouped.Goals as goal

pub returns-in_err-labels-clause-place : goal.returns-in_err-labels-clause-place
returns-in_err-labels-clause-place c =
    err_within _ c.from_residual.result c.in_err-labels.field-0.0 c.from_residual.ensures.1
    (λ alone. c.in_err-labels.ensures.place (grouped c.args.name.now) _ (c.new-fields.ensures.left (grouped c.args.name.now) c.args.name.now alone.1) alone.0)

pub returns-in_err-end-clause-place : goal.returns-in_err-end-clause-place
returns-in_err-end-clause-place c =
    err_within _ c.from_residual-in_err-end.result c.in_err-end.field-0.0 c.from_residual-in_err-end.ensures.1
    (λ alone. c.in_err-end.ensures.place (grouped c.args.name.now) _ ((c.in_ok-labels.ensures.left (grouped c.args.name.now) _ (c.new-fields.ensures.left (grouped c.args.name.now) c.args.name.now alone.1)).1 None alone.2))

pub returns-in-Err-clause-place : goal.returns-in-Err-clause-place
returns-in-Err-clause-place c = λ alone.
    c.inside.ensures.place (grouped c.args.name.now) labels _ _ (by_row (grouped c.args.name.now) labels _ c.args.name.now alone.3) (c.in_ok-labels.ensures.left (grouped c.args.name.now) _ (c.new-fields.ensures.left (grouped c.args.name.now) c.args.name.now alone.1)).0 c.in-Err.ensures.place

use Rattle.std.proofs.Common.{refl}
use Rattle.promql_from_json.specs.FormMisfits.{one}
use Rattle.promql_from_json.specs.declared.from_error.Expected.TheVariants.{Text}
use Rattle.promql_from_json.proofs.ReadForms.{err_within}
use Rattle.promql_from_json.proofs.read_labels.read_label.Goals as goal

pub returns-in_err-text-clause-place : goal.returns-in_err-text-clause-place
returns-in_err-text-clause-place c =
    err_within _ c.from_residual.result c.in_err-text.field-0.0 c.from_residual.ensures.1
    (c.in_err-text.ensures.place (one Text) refl)

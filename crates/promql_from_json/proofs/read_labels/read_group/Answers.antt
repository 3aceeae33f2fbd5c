use Rattle.std.proofs.Common.{refl}
use Rattle.promql_from_json.specs.FormMisfits.{list_of, matcher}
use Rattle.promql_from_json.proofs.ReadForms.{err_within}
use Rattle.promql_from_json.specs.declared.from_error.Expected.TheVariants.{List as ListThere}
use Rattle.promql_from_json.proofs.read_labels.read_group.Goals as goal

pub returns-in_err-list-clause-place : goal.returns-in_err-list-clause-place
returns-in_err-list-clause-place c =
    err_within _ c.from_residual.result c.in_err-list.field-0.0 c.from_residual.ensures.1
    (c.in_err-list.ensures.place (list_of ListThere matcher) refl)

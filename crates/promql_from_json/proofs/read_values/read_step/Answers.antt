use Rattle.std.proofs.Common.{rules}
use Rattle.promql_from_json.specs.FormMisfits.{one}
use Rattle.promql_from_json.specs.declared.from_error.Expected.TheVariants.{Length}
use Rattle.promql_from_json.proofs.ReadForms.{err_within}
use Rattle.promql_from_json.proofs.ErrorPlaces.{nullable}
use Rattle.serde_json.specs.declared.value.Value.{the_lemmas}
use Rattle.promql_from_json.proofs.read_values.read_step.Goals as goal

pub returns-in_err-read_length-in_default-clause-place : goal.returns-in_err-read_length-in_default-clause-place
returns-in_err-read_length-in_default-clause-place c =
    err_within _ c.from_residual.result c.in_err-read_length-in_default.field-0.0 c.from_residual.ensures.1
    (nullable (one Length) _ _ (search (rules, the_lemmas, c.in_default.not-Null)) (c.in_err-read_length-in_default.ensures.place c.in_err-read_length-in_default.ensures.err))

use Rattle.std.proofs.Common.{refl, sym}
use Rattle.std.proofs.lemmas.Result.{IfErr-weaker}
use Rattle.promql_from_json.proofs.ErrorPlaces.{all_by_kind}
use Rattle.promql_from_json.proofs.ReadForms.{err_within}
use Rattle.promql_from_json.specs.FormMisfits.{word}
use Rattle.promql_from_json.specs.declared.from_error.Expected.TheVariants.{Number}
use Rattle.promql_from_json.proofs.read_values.read_number.Goals as goal

pub returns-in_err-text-clause-place : goal.returns-in_err-text-clause-place
returns-in_err-text-clause-place c =
    err_within _ c.from_residual.result c.in_err-text.field-0.0 c.from_residual.ensures.1 (c.in_err-text.ensures.place (word Number) refl)

pub returns-clause-place : goal.returns-clause-place
returns-clause-place c =
    rw c.in_ok-text.ensures.ok (all_by_kind (word Number) _ _ c.number_of_text.result
    (IfErr-weaker c.number_of_text.result _ _ (λ e none other n fine h. none other n fine (sym h)) c.number_of_text.ensures.err) c.number_of_text.ensures.place)

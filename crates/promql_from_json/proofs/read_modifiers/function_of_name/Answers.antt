use Rattle.promql_from_json.proofs.ReadForms.{err_within}
use Rattle.std.proofs.Common.{refl}
use Rattle.promql_from_json.specs.FormMisfits.{word}
use Rattle.promql_from_json.specs.declared.from_error.Expected.TheVariants.{FunctionName}
use Rattle.promql_from_json.proofs.ErrorPlaces.{word_here}
use Rattle.promql_from_json.proofs.read_modifiers.function_of_name.Goals as goal

pub returns-in_err-name-clause-place : goal.returns-in_err-name-clause-place
returns-in_err-name-clause-place c =
    err_within _ c.from_residual.result c.in_err-name.field-0.0 c.from_residual.ensures.1
    (λ other. c.in_err-name.ensures.place (word FunctionName) refl)

pub returns-in-None-clause-place : goal.returns-in-None-clause-place
returns-in-None-clause-place c = λ other. c.here.ensures _ _ (word_here FunctionName _ other)

use Rattle.std.proofs.Common.{◌≡◌, ◌∙◌, refl, sym}
use Rattle.promql_from_json.specs.FormMisfits.{word}
use Rattle.promql_from_json.proofs.ErrorPlaces.{word_here}
use Rattle.serde_json.specs.Data.{string}
use Rattle.promql_token.specs.Ids.{text_of}
use Rattle.promql_from_json.proofs.ReadForms.{err_within, none_of}
use Rattle.promql_from_json.proofs.read_values.read_id.Goals as goal

pub returns-in-None-clause-err : goal.returns-in-None-clause-err
returns-in-None-clause-err c = λ id is h.
    let same : string (text_of id) ≡ string c.in_ok-text.text.now = sym h ∙ c.in_ok-text.ensures.ok in
    none_of c.args.ids.now c.in_ok-text.text.now id c.in-None.ensures.none is cc

pub returns-in_err-text-clause-place : goal.returns-in_err-text-clause-place
returns-in_err-text-clause-place c =
    err_within _ c.from_residual.result c.in_err-text.field-0.0 c.from_residual.ensures.1 (λ other. c.in_err-text.ensures.place (word c.args.expected) refl)

pub returns-in-None-clause-place : goal.returns-in-None-clause-place
returns-in-None-clause-place c = λ other. c.here.ensures _ _ (word_here c.args.expected _ other)

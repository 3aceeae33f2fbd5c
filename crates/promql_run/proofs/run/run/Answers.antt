use Rattle.std.proofs.Common.{◌≡◌, sym, ◌∙◌, ap}
use Rattle.std.specs.Prelude.{Err}
use Rattle.std.proofs.lemmas.Result.{err_from_is_err_and}
use Rattle.promql_run.specs.declared.run.RunError.TheVariants.{Parse}
use Rattle.promql_run.proofs.InputsRead.{input_of}
use Rattle.promql_run.proofs.run.run.Goals as goal

pub returns-in_err-answer-clause-parse : goal.returns-in_err-answer-clause-parse
returns-in_err-answer-clause-parse g c = λ e is.
    let same = err_from_is_err_and c.from_residual-in_err-answer.result c.from_residual-in_err-answer.ensures.1 in
    let raised : Err same.0 ≡ Err (Parse e) = sym same.1 ∙ is in
    let own : same.0 ≡ Parse e = cc in
    input_of _ _ _ _ c.as_str.result.now c.in_ok-text.ensures.read c.as_str.utf8 c.as_str.ensures.value
    (c.in_err-answer.ensures.parse e (ap Err (sym same.2 ∙ own)))

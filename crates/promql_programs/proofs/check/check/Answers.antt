use Rattle.std.proofs.Common.{inr, sym, ◌∙◌, subst, ⊎_elim}
use Rattle.promql_run.specs.StepErrors.{IsInputError}
use Rattle.promql_run.proofs.Statuses.{four_is_parse, none_is_zero}
use Rattle.promql_programs.proofs.CheckAnswers.{warned, written_unless_failed}
use Rattle.promql_query.proofs.LimitStatus.{not_fourteen, not_twenty_four, not_twenty_three}
use Rattle.promql_programs.proofs.check.check.Goals as goal

pub returns-in-Ok-Warned-clause-accepted : goal.returns-in-Ok-Warned-clause-accepted
returns-in-Ok-Warned-clause-accepted g c = λ zero.
    inr (
      c.as_str.result.now,
      warned c.args.settings.now c.args.source.now c.in-Ok-Warned.field-0 c.in-Ok-Warned.warning c.as_str.result.now _ _ c.in-Ok-Warned.field-0-is c.as_str.ensures.value c.in-Ok-Warned.ensures.ok,
      written_unless_failed c.write_text.result c.write_text.new.writer.failed c.write_text.ensures.ok c.write_text.ensures.failed,
    )

pub returns-in-Err-clause-accepted : goal.returns-in-Err-clause-accepted
returns-in-Err-clause-accepted g c = λ zero. absurd (none_is_zero c.in-Err.error (sym c.number.ensures ∙ zero))

pub returns-in-Err-clause-rejected : goal.returns-in-Err-clause-rejected
returns-in-Err-clause-rejected g c = λ status. ⊎_elim
    (λ four.
    let found = four_is_parse c.in-Err.error (sym c.number.ensures ∙ four) in
    absurd (subst IsInputError found.1 c.in-Err.ensures.errors))
    (⊎_elim
    (λ fourteen. absurd (not_fourteen c.in-Err.error (sym c.number.ensures ∙ fourteen)))
    (⊎_elim
    (λ twenty_three. absurd (not_twenty_three c.in-Err.error (sym c.number.ensures ∙ twenty_three)))
    (λ twenty_four. absurd (not_twenty_four c.in-Err.error (sym c.number.ensures ∙ twenty_four)))))
    status

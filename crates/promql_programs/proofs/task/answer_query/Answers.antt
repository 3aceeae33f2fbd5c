use Rattle.std.proofs.Common.{◌∙◌, ⊎_elim, inl, inr, option_map, refl, string_bytes, subst, sym}
use Rattle.promql_run.specs.Inputs.{HasRead}
use Rattle.promql_query.proofs.QueryStatuses.{not_status, not_written, three_is_not_utf8}
use Rattle.promql_programs.specs.Tasks.{IsInputAnswer}
use Rattle.promql_programs.specs.Warnings.{IsWarning}
use Rattle.promql_programs.proofs.WarnedAnswers.{warned}
use Rattle.promql_programs.proofs.task.answer_query.Goals as goal

-- what was made is written, or a beginning of it
pub returns-in-Ok-warning_of-clause-answers : goal.returns-in-Ok-warning_of-clause-answers
returns-in-Ok-warning_of-clause-answers g c =
    let status = c.write_warned.result in
    let known = c.write_warned.ensures.known in
    let input = c.as_str.result.now in
    let read = subst (HasRead (g.R.Read.remaining c.args.reader.now.inner) (g.R.Read.remaining c.read_text.new.reader.inner)) (sym c.as_str.ensures.value) c.in-Ok.ensures.read in
    let answer = c.as_str-text.result.now in
    let is = subst (g.T.Task.makes c.args.task.now c.text_in-query.result.now) (sym c.as_str-text.ensures.value) c.in-Ok-answer.ensures.made in
    let made : IsInputAnswer c.args.source.now.is_file (g.T.Task.makes c.args.task.now) input answer = (c.text_in-query.result.now, c.text_in-query.ensures, is) in
    let prefix = string_bytes c.args.source.now.prefix in
    let warning = subst (λ target. IsWarning c.args.source.now.is_file prefix target answer (option_map string_bytes c.in-Ok-warning_of.warning)) c.target.ensures c.in-Ok-warning_of.ensures in
    record {
      reads = record {
        failed = λ two. absurd (not_written status 2 refl known two);
        quiet = λ other. c.in-Ok.ensures.quiet;
        not_utf8 = λ three. absurd (not_written status 3 refl known three);
      };
      ok = λ zero. (
        input,
        read,
        c.as_str.utf8,
        (
          answer,
          (made, warned g.E.Write.contents c.args.source.now.is_file prefix (g.T.Task.served c.args.task.now) answer _ _ _ warning (c.write_warned.ensures.said zero)),
          c.write_warned.ensures.text zero,
        ),
      );
      flushed = c.write_warned.ensures.flushed;
      write = c.write_warned.ensures.write;
      begun = λ five. (input, read, c.as_str.utf8, (answer, made, c.write_warned.ensures.begun five));
      unwritten = λ some other. absurd (⊎_elim some other known);
      none = ⊎_elim inl (λ five. inr (inr (inr (inr (inl five))))) known;
    }

-- an error of the query, whose number is no other's
pub returns-clause-answers : goal.returns-clause-answers
returns-clause-answers g c =
    let e = c.in-Err-answer.error in
    let number = c.number-in-Err-answer.ensures in
    let input = c.as_str.result.now in
    record {
      reads = record {
        failed = λ two. absurd (not_status e 2 refl (sym number ∙ two));
        quiet = λ other. c.in-Ok.ensures.quiet;
        not_utf8 = λ three. absurd (c.in-Err-answer.ensures.text (three_is_not_utf8 e (sym number ∙ three)));
      };
      ok = λ zero. absurd (not_status e 0 refl (sym number ∙ zero));
      flushed = λ zero. absurd (not_status e 0 refl (sym number ∙ zero));
      write = λ five. absurd (not_status e 5 refl (sym number ∙ five));
      begun = λ five. absurd (not_status e 5 refl (sym number ∙ five));
      unwritten = λ some other. refl;
      none = inr (inr (inr (inr (inr (
        e,
        sym number,
        (
          input,
          subst (HasRead (g.R.Read.remaining c.args.reader.now.inner) (g.R.Read.remaining c.read_text.new.reader.inner)) (sym c.as_str.ensures.value) c.in-Ok.ensures.read,
          c.as_str.utf8,
          (c.text_in-query.result.now, c.text_in-query.ensures, c.in-Err-answer.ensures.failed),
        ),
      )))));
    }

pub returns-clause-closed : goal.returns-clause-closed
returns-clause-closed g c five closed = absurd (not_status c.in-Err-answer.error 5 refl (sym c.number-in-Err-answer.ensures ∙ five))

use Rattle.std.proofs.Common.{inl, string_bytes, subst}
use Rattle.std.proofs.lemmas.Result.{IfOk-weaker}
use Rattle.std.specs.Prelude.{IfOk}
use Rattle.promql_query.specs.Batch.{IsLineAnswer}
use Rattle.promql_query.proofs.AnswerIds.{none_in_bytes, without_id}
use Rattle.promql_query.proofs.line.answer_line.Goals as goal

pub returns-in-Ok : goal.returns-in-Ok
returns-in-Ok c =
    subst (λ line. IfOk c.answer_text.result (λ a. IsLineAnswer c.args.settings.now line (string_bytes a.text) a.is_ok)) c.in-Ok.ensures.cases.0 c.answer_text.ensures

pub returns-in-Err : goal.returns-in-Err
returns-in-Err c =
    let settings = c.args.settings.now in let line = c.args.line.now in
    IfOk-weaker c.plain_answer.result _ _ (λ a plain. without_id settings line (string_bytes a.text) a.is_ok (none_in_bytes line c.in-Err.ensures.cases.0) plain)
    (c.plain_answer.ensures settings line tt (inl c.in-Err.ensures.cases.0))

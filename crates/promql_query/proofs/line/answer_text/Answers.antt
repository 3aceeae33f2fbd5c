use Rattle.std.proofs.Common.{Some, None, ap, string_bytes, sym, ◌∙◌}
use Rattle.std.proofs.lemmas.Result.{IfOk-weaker}
use Rattle.serde_json.specs.Data.{string}
use Rattle.promql_query.proofs.AnswerIds.{none_in_quotes, without_id}
use Rattle.promql_query.proofs.LineAnswers.{answered_line, asks_in_quotes, failing_in_vain}
use Rattle.promql_query.specs.declared.mode.Mode.TheVariants.{Plain}
use Rattle.promql_query.specs.declared.mode.Wanted.TheVariants.{Print}
use Rattle.promql_query.proofs.line.answer_text.Goals as goal

pub returns : goal.returns
returns c =
    let settings = c.args.settings.now in let line = c.args.line.now in let query = c.as_str.result.now in let format = settings.format in
    let quoted = rw c.in-Some.is at c.in_ok-query.ensures in
    let asks = asks_in_quotes format line query (quoted ∙ ap (λ q. Some (string q)) (sym c.as_str.ensures.value)) in
    IfOk-weaker c.plain_answer.result _ _ (λ a plain. without_id settings line (string_bytes a.text) a.is_ok (none_in_quotes line (string_bytes c.in-Some.query) c.utf8.line quoted) plain)
    (c.plain_answer.ensures settings line (answered_line c.answer_query-answer.result settings line query None (Print (Plain format)) c.utf8.line asks c.answer_query-answer.ensures.ok)
    (failing_in_vain c.answer_query-answer.result settings line query None (Print (Plain format)) c.utf8.line asks c.answer_query-answer.ensures.err))

use Rattle.std.proofs.Common.{ap, string_bytes, ◌∙◌}
use Rattle.std.proofs.lemmas.Result.{IfOk-weaker}
use Rattle.std.specs.Prelude.{option_map}
use Rattle.serde_json.specs.View.{view}
use Rattle.promql_query.proofs.AnswerIds.{none_unread, unread_fails, without_id}
use Rattle.promql_query.proofs.line.answer_json.Goals as goal

pub returns-in-None : goal.returns-in-None
returns-in-None c =
    let settings = c.args.settings.now in let line = c.args.line.now in
    let unread = c.in_ok-asked.ensures.value ∙ ap (option_map view) c.in-None.is in
    IfOk-weaker c.plain_answer.result _ _ (λ a plain. without_id settings line (string_bytes a.text) a.is_ok (none_unread line c.utf8.line unread) plain)
    (c.plain_answer.ensures settings line tt (unread_fails settings line c.utf8.line unread))

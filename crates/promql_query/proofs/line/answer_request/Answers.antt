use Rattle.std.proofs.Common.{string_bytes}
use Rattle.serde_json.specs.View.{view}
use Rattle.promql_query.proofs.AnswerIds.{with_its_id}
use Rattle.promql_query.proofs.line.answer_request.Goals as goal

pub returns : goal.returns
returns c = λ line utf8 read.
    with_its_id c.args.settings.now line (string_bytes c.in_ok-text.field-0.text) (string_bytes c.in_ok-text-2.text) c.in_ok-text.field-0.is_ok (view c.args.asked.now) utf8 read
    (c.in_ok-text.ensures c.args.settings.now line (c.answer_value-found.ensures.ok line utf8 read) (c.answer_value-found.ensures.err line utf8 read))
    c.in_ok-text-2.ensures

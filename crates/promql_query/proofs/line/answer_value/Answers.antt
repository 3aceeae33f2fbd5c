use Rattle.std.proofs.Common.{ap, sym, ◌∙◌}
use Rattle.std.specs.Prelude.{option_and_then, option_map}
use Rattle.serde_json.specs.View.{view}
use Rattle.promql_query.specs.Requests.{unknown_in}
use Rattle.promql_query.proofs.LineAnswers.{answered_line, asks_by_value, failing_in_vain}
use Rattle.promql_query.proofs.line.answer_value.Goals as goal

pub returns-in-Some-clause-err : goal.returns-in-Some-clause-err
returns-in-Some-clause-err c = λ line utf8 read.
    c.unknown_member.ensures c.args.settings.now line utf8 (ap (option_and_then unknown_in) read ∙ sym c.in-Some.ensures)

pub returns-clause-ok : goal.returns-clause-ok
returns-clause-ok c = λ line utf8 read.
    let settings = c.args.settings.now in let query = c.in-Some-query_in.query.now in let matcher = option_map (λ s. s.now) c.matcher_in.result in let wanted = c.in-Some-wanted_in.wanted in
    answered_line c.answer_query.result settings line query matcher wanted utf8
    (asks_by_value settings.format line query matcher wanted (view c.args.asked.now) read c.in-Some-query_in.ensures c.matcher_in.ensures c.in-Some-wanted_in.ensures)
    c.answer_query.ensures.ok

pub returns-clause-err : goal.returns-clause-err
returns-clause-err c = λ line utf8 read.
    let settings = c.args.settings.now in let query = c.in-Some-query_in.query.now in let matcher = option_map (λ s. s.now) c.matcher_in.result in let wanted = c.in-Some-wanted_in.wanted in
    failing_in_vain c.answer_query.result settings line query matcher wanted utf8
    (asks_by_value settings.format line query matcher wanted (view c.args.asked.now) read c.in-Some-query_in.ensures c.matcher_in.ensures c.in-Some-wanted_in.ensures)
    c.answer_query.ensures.err

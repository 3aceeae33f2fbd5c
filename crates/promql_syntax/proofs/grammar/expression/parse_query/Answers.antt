use Rattle.std.proofs.lemmas.Result.{err_from_is_err_and}
use Rattle.promql_syntax.proofs.answer.QueryAnswers.{whole_stops, whole_given, whole_placed, left_misfits, some_left, none_left}
use Rattle.promql_syntax.proofs.grammar.expression.parse_query.Goals as goal

pub returns-in_err-parsed-clause-whole : goal.returns-in_err-parsed-clause-whole
returns-in_err-parsed-clause-whole c =
    let same = err_from_is_err_and c.from_residual.result c.from_residual.ensures.1 in
    rw (same.1, same.2) (whole_stops _ _ _ _ c.in_err-parsed.ensures.gives)

pub returns-then-not-is_empty-clause-whole : goal.returns-then-not-is_empty-clause-whole
returns-then-not-is_empty-clause-whole c = left_misfits _ _ _ _ c.in_ok-parsed.ensures.gives (some_left _ c.if-not-is_empty.ensures)

pub returns-clause-whole : goal.returns-clause-whole
returns-clause-whole c = whole_given _ _ _ _ c.in_ok-parsed.ensures.gives (none_left _ c.if-not-is_empty.ensures)

pub returns-clause-place : goal.returns-clause-place
returns-clause-place c = whole_placed _ _ _ _ _ c.in_ok-parsed.ensures.gives (none_left _ c.if-not-is_empty.ensures)

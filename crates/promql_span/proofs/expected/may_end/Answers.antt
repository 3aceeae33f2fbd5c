use Rattle.promql_span.proofs.expected.may_end.Goals as goal

pub returns-in-Some : goal.returns-in-Some
returns-in-Some c = rw c.in-Some.is c.is_query.ensures

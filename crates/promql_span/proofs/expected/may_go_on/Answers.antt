use Rattle.promql_span.proofs.expected.may_go_on.Goals as goal

pub returns-in-Some : goal.returns-in-Some
returns-in-Some c = rw c.in-Some.is c.goes_on.ensures

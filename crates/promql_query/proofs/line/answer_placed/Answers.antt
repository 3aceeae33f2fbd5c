use Rattle.promql_query.proofs.line.answer_placed.Goals as goal

pub returns-clause-ok : goal.returns-clause-ok
returns-clause-ok c = c.answer_form-answer.ensures.ok c.requires

pub returns-clause-err : goal.returns-clause-err
returns-clause-err c = c.answer_form-answer.ensures.err c.requires

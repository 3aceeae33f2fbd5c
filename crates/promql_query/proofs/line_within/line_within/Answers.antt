use Rattle.std.proofs.Common.{◌∙◌, ap, rules, subst}
use Rattle.std.specs.Prelude.{Err}
use Rattle.promql_syntax.specs.ParseAnswers.{IsAnswerTo, plain_error_of}
use Rattle.promql_query.proofs.line_within.line_within.Goals as goal

pub returns-in-Err-Rejected-clause-err : goal.returns-in-Err-Rejected-clause-err
returns-in-Err-Rejected-clause-err c =
    let found = c.check_meaning.ensures.rejected c.in-Err-Rejected.error (c.in-Err-Rejected.is ∙ ap Err c.in-Err-Rejected.field-0-is) in
    (search rules, subst (λ z. IsAnswerTo z (Err (plain_error_of c.in-Err-Rejected.error))) (search rules) found.0, found.1)

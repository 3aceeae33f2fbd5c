use Rattle.std.proofs.Common.{◌≡◌, ◌∙◌, ap, rules, subst}
use Rattle.std.specs.Prelude.{Err}
use Rattle.promql_syntax.specs.ParseAnswers.{IsAnswerTo, plain_error_of}
use Rattle.promql_rewrite.specs.declared.faithful.NotFaithful.TheVariants.{Rejected}
use Rattle.promql_rewrite.proofs.faithful.faithful_line.Goals as goal

pub returns-in-Err-clause-rejected : goal.returns-in-Err-clause-rejected
returns-in-Err-clause-rejected c = λ e is.
    let own : c.in-Err.error ≡ Rejected e = cc in
    let found = c.check_meaning.ensures.rejected e (c.in-Err.is ∙ ap (λ f. Err f) own) in
    (subst (λ z. IsAnswerTo z (Err (plain_error_of e))) (search rules) found.0, found.1)

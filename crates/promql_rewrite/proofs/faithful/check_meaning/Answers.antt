use Rattle.std.proofs.Common.{◌≡◌, sym, ◌∙◌, subst}
use Rattle.std.specs.Prelude.{Err}
use Rattle.std.proofs.lemmas.Result.{err_from_is_err_and}
use Rattle.promql_syntax.specs.ParseAnswers.{IsAnswerTo, plain_error_of}
use Rattle.promql_rewrite.specs.declared.faithful.NotFaithful.TheVariants.{Rejected}
use Rattle.promql_rewrite.proofs.rules_broken.Rejections.{raised_own}
use Rattle.promql_rewrite.proofs.faithful.check_meaning.Goals as goal

pub returns-in_err-read-clause-rejected : goal.returns-in_err-read-clause-rejected
returns-in_err-read-clause-rejected c = λ e is.
    let same = err_from_is_err_and c.from_residual.result c.from_residual.ensures.1 in
    let raised : Err same.0 ≡ Err (Rejected e) = sym same.1 ∙ is in
    let own : same.0 ≡ Rejected e = cc in
    let parsed = raised_own c.in_err-read.field-0.0 same.0 same.2 e own in
    (subst (λ f. IsAnswerTo c.args.text.now (Err (plain_error_of f))) parsed.0 c.in_err-read.ensures, parsed.1)

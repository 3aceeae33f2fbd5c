use Rattle.std.proofs.Common.{◌≡◌, sym, ◌∙◌, subst}
use Rattle.std.specs.Prelude.{Err}
use Rattle.std.proofs.lemmas.Result.{err_from_is_err_and}
use Rattle.promql_syntax.specs.ParseAnswers.{IsAnswerTo, plain_error_of}
use Rattle.promql_rewrite.specs.declared.enforcing.EnforceError.TheVariants.{Parse}
use Rattle.promql_rewrite.proofs.rules_broken.Rejections.{passed_own}
use Rattle.promql_rewrite.proofs.enforcing.enforce_query.Goals as goal

pub returns-in_err-expr-clause-parse : goal.returns-in_err-expr-clause-parse
returns-in_err-expr-clause-parse c = λ e is.
    let same = err_from_is_err_and c.from_residual.result c.from_residual.ensures.1 in
    let raised : Err same.0 ≡ Err (Parse e) = sym same.1 ∙ is in
    let own : same.0 ≡ Parse e = cc in
    let parsed = passed_own c.in_err-expr.field-0.0 same.0 same.2 e own in
    (subst (λ f. IsAnswerTo c.args.query.now (Err (plain_error_of f))) parsed.0 c.in_err-expr.ensures, parsed.1)

use Rattle.std.proofs.Common.{subst, sym}
use Rattle.std.proofs.lemmas.Result.{err_from_is_err_and}
use Rattle.std.specs.Prelude.{Err, IfErr}
use Rattle.promql_query.specs.TreeTexts.{ReadsForm}
use Rattle.promql_query.proofs.read_form.read_form.Goals as goal

pub returns-in_err-value-clause-err : goal.returns-in_err-value-clause-err
returns-in_err-value-clause-err c =
    let limits = c.args.limits.now in let most = c.args.max_tree in let form = c.args.form.now in
    let same = err_from_is_err_and c.from_residual.result c.from_residual.ensures.1 in
    subst (λ r. IfErr r (λ e. ReadsForm limits most form (Err e))) (sym same.1)
    (subst (λ e. ReadsForm limits most form (Err e)) (sym same.2) (c.in_err-value.ensures.err limits))

use Rattle.std.proofs.Common.{subst, sym}
use Rattle.std.proofs.lemmas.Result.{err_from_is_err_and}
use Rattle.std.specs.Prelude.{Err, IfErr}
use Rattle.promql_ast.specs.View.{tree_of}
use Rattle.promql_query.specs.TreeTexts.{PrintsTree}
use Rattle.promql_query.proofs.tree_text.show_tree.Goals as goal

pub returns-in_err-line-clause-err : goal.returns-in_err-line-clause-err
returns-in_err-line-clause-err c =
    let limits = c.args.limits.now in let format = c.args.format in let t = tree_of c.args.expr.now in
    let same = err_from_is_err_and c.from_residual.result c.from_residual.ensures.1 in
    subst (λ r. IfErr r (λ e. PrintsTree limits format t (Err e))) (sym same.1)
    (subst (λ e. PrintsTree limits format t (Err e)) (sym same.2) (c.in_err-line.ensures.err format))

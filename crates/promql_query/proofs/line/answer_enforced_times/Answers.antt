use Rattle.std.proofs.Common.{inl, subst, sym}
use Rattle.std.proofs.lemmas.Result.{IfOk-weaker, err_from_is_err_and}
use Rattle.std.specs.Prelude.{Err, IfErr}
use Rattle.promql_ast.specs.View.{tree_of}
use Rattle.promql_query.specs.BatchSteps.{TellsEnforced}
use Rattle.promql_query.proofs.LineAnswers.{told_fails}
use Rattle.promql_query.proofs.line.answer_enforced_times.Goals as goal

pub returns-in_err-expr-clause-err : goal.returns-in_err-expr-clause-err
returns-in_err-expr-clause-err c =
    let limits = c.args.limits.now in let matcher = c.args.matcher.now in let ts = c.args.times.now in let t = tree_of c.args.expr in
    let same = err_from_is_err_and c.from_residual.result c.from_residual.ensures.1 in
    subst (λ r. IfErr r (λ e. TellsEnforced limits matcher ts t (Err e))) (sym same.1)
    (subst (λ e. TellsEnforced limits matcher ts t (Err e)) (sym same.2) (inl c.in_err-expr.ensures.err))

pub returns-clause-ok : goal.returns-clause-ok
returns-clause-ok c =
    IfOk-weaker c.answer_told-answer.result _ _ (λ s has. (has.0, (tree_of c.in_ok-expr.expr, c.in_ok-expr.ensures.ok, has.1), has.2)) c.answer_told-answer.ensures.ok

pub returns-clause-err : goal.returns-clause-err
returns-clause-err c =
    told_fails c.answer_told-answer.result c.args.limits.now c.args.matcher.now c.args.times.now (tree_of c.args.expr) (tree_of c.in_ok-expr.expr) c.in_ok-expr.ensures.ok
    c.answer_told-answer.ensures.err

use Rattle.std.proofs.Common.{inl, option_map, subst, sym}
use Rattle.std.proofs.lemmas.Result.{err_from_is_err_and}
use Rattle.std.specs.Prelude.{Err, IfErr}
use Rattle.promql_ast.specs.View.{tree_of}
use Rattle.promql_query.proofs.EnforcedTrees.{asked_low, asked_plain}
use Rattle.promql_query.proofs.LineAnswers.{asked_answers, asked_fails}
use Rattle.promql_query.specs.BatchSteps.{IsAskedPrint}
use Rattle.promql_query.proofs.line.answer_asked.Goals as goal

pub returns-in_err-expr-clause-err : goal.returns-in_err-expr-clause-err
returns-in_err-expr-clause-err c =
    let limits = c.args.limits.now in let matcher = option_map (λ s. s.now) c.args.matcher in let format = c.args.format in let t = tree_of c.args.expr in
    let same = err_from_is_err_and c.from_residual.result c.from_residual.ensures.1 in
    subst (λ r. IfErr r (λ e. IsAskedPrint limits matcher format t (Err e))) (sym same.1)
    (subst (λ e. IsAskedPrint limits matcher format t (Err e)) (sym same.2)
    (inl c.in_err-expr.ensures.err))

pub answer_tree-answer-requires-clause-low : goal.answer_tree-answer-requires-clause-low
answer_tree-answer-requires-clause-low c =
    asked_low c.args.limits.now (option_map (λ s. s.now) c.args.matcher) (tree_of c.args.expr) (tree_of c.in_ok-expr.expr) c.in_ok-expr.ensures.ok c.requires.low

pub answer_tree-answer-requires-clause-plain : goal.answer_tree-answer-requires-clause-plain
answer_tree-answer-requires-clause-plain c =
    asked_plain c.args.limits.now (option_map (λ s. s.now) c.args.matcher) (tree_of c.args.expr) (tree_of c.in_ok-expr.expr) c.in_ok-expr.ensures.ok c.requires.plain

pub returns-clause-ok : goal.returns-clause-ok
returns-clause-ok c =
    asked_answers c.answer_tree-answer.result c.args.limits.now (option_map (λ s. s.now) c.args.matcher) c.args.format (tree_of c.args.expr) (tree_of c.in_ok-expr.expr)
    c.in_ok-expr.ensures.ok c.answer_tree-answer.ensures.ok

pub returns-clause-err : goal.returns-clause-err
returns-clause-err c =
    asked_fails c.answer_tree-answer.result c.args.limits.now (option_map (λ s. s.now) c.args.matcher) c.args.format (tree_of c.args.expr) (tree_of c.in_ok-expr.expr)
    c.in_ok-expr.ensures.ok c.answer_tree-answer.ensures.err

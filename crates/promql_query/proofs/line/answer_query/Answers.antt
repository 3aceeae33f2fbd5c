use Rattle.std.proofs.Common.{inl, option_map, refl, subst}
use Rattle.std.specs.Prelude.{Err}
use Rattle.promql_ast.specs.View.{tree_of}
use Rattle.promql_query.specs.Rejecting.{IsRead}
use Rattle.promql_run.proofs.NoExtensions.{answers_are_plain}
use Rattle.promql_query.specs.QueryErrors.{ReadsQuery}
use Rattle.promql_query.specs.Telling.{IsToldWith}
use Rattle.promql_query.proofs.LineAnswers.{query_answers, query_fails}
use Rattle.promql_query.proofs.line.answer_query.Goals as goal

pub answer_wanted-requires-clause-low : goal.answer_wanted-requires-clause-low
answer_wanted-requires-clause-low c = c.in-Ok.ensures.ok.1.low (tree_of c.in-Ok.expr) refl

pub answer_wanted-requires-clause-plain : goal.answer_wanted-requires-clause-plain
answer_wanted-requires-clause-plain c = answers_are_plain c.args.query.now (tree_of c.in-Ok.expr) c.in-Ok.ensures.ok.1

pub answer_wanted-requires-clause-answer : goal.answer_wanted-requires-clause-answer
answer_wanted-requires-clause-answer c = c.in-Ok.ensures.ok.1

pub returns-in-Ok-clause-ok : goal.returns-in-Ok-clause-ok
returns-in-Ok-clause-ok c =
    query_answers c.answer_wanted.result c.args.limits.now c.args.query.now (option_map (λ s. s.now) c.args.matcher) c.args.wanted (tree_of c.in-Ok.expr)
    (subst (λ limits. IsRead limits c.args.query.now (tree_of c.in-Ok.expr)) c.limits_of.ensures c.in-Ok.ensures.ok) c.answer_wanted.ensures.ok

pub returns-in-Ok-clause-err : goal.returns-in-Ok-clause-err
returns-in-Ok-clause-err c =
    query_fails c.answer_wanted.result c.args.limits.now c.args.query.now (option_map (λ s. s.now) c.args.matcher) c.args.wanted (tree_of c.in-Ok.expr)
    (subst (λ limits. IsRead limits c.args.query.now (tree_of c.in-Ok.expr)) c.limits_of.ensures c.in-Ok.ensures.ok) c.answer_wanted.ensures.err

pub returns-in-Err-clause-err : goal.returns-in-Err-clause-err
returns-in-Err-clause-err c =
    let query = c.args.query.now in
    inl (subst (λ limits. ReadsQuery (IsToldWith query) limits query (Err c.in-Err.error)) c.limits_of.ensures c.in-Err.ensures.err)

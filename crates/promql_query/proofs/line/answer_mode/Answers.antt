use Rattle.std.proofs.Common.{option_map, string_bytes, subst, sym}
use Rattle.std.specs.Prelude.{Err, IfErr, IfOk}
use Rattle.promql_ast.specs.View.{tree_of}
use Rattle.promql_query.specs.Batch.{PrintsAsked}
use Rattle.promql_query.specs.BatchSteps.{IsWantedAnswer}
use Rattle.promql_query.specs.declared.mode.Wanted.TheVariants.{Print}
use Rattle.promql_query.proofs.LineAnswers.{mode_answers, mode_fails}
use Rattle.promql_query.proofs.line.answer_mode.Goals as goal

pub returns-in-Plain-clause-ok : goal.returns-in-Plain-clause-ok
returns-in-Plain-clause-ok c =
    mode_answers c.answer_asked.result c.args.limits.now c.args.query.now (option_map (λ s. s.now) c.args.matcher) c.in-Plain.format c.args.mode (tree_of c.args.expr)
    (sym c.in-Plain.is) c.answer_asked.ensures.ok

pub returns-in-Plain-clause-err : goal.returns-in-Plain-clause-err
returns-in-Plain-clause-err c =
    mode_fails c.answer_asked.result c.args.limits.now c.args.query.now (option_map (λ s. s.now) c.args.matcher) c.in-Plain.format c.args.mode (tree_of c.args.expr)
    (sym c.in-Plain.is) c.answer_asked.ensures.err

pub returns-in-Placed-clause-ok : goal.returns-in-Placed-clause-ok
returns-in-Placed-clause-ok c =
    subst (λ m. IfOk c.answer_placed.result (λ s. IsWantedAnswer c.args.limits.now c.args.query.now (option_map (λ s. s.now) c.args.matcher) (Print m) (tree_of c.args.expr) (string_bytes s)))
    (sym c.in-Placed.is) c.answer_placed.ensures.ok

pub returns-in-Placed-clause-err : goal.returns-in-Placed-clause-err
returns-in-Placed-clause-err c =
    subst (λ m. IfErr c.answer_placed.result (λ e. PrintsAsked c.args.limits.now c.args.query.now (Print m) (option_map (λ s. s.now) c.args.matcher) (tree_of c.args.expr) (Err e)))
    (sym c.in-Placed.is) c.answer_placed.ensures.err

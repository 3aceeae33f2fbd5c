use Rattle.std.proofs.Common.{option_map, string_bytes, subst, sym}
use Rattle.std.specs.Prelude.{IfOk}
use Rattle.promql_ast.specs.View.{tree_of}
use Rattle.promql_query.specs.BatchSteps.{IsWantedAnswer}
use Rattle.promql_query.specs.declared.mode.Wanted.TheVariants.{Times}
use Rattle.promql_query.proofs.line.answer_wanted.Goals as goal

pub returns-in-Print-default-clause-ok : goal.returns-in-Print-default-clause-ok
returns-in-Print-default-clause-ok c =
    subst (λ w. IfOk c.answer_mode.result (λ s. IsWantedAnswer c.args.limits.now c.args.query.now (option_map (λ s. s.now) c.args.matcher) w (tree_of c.args.expr) (string_bytes s)))
    (sym c.in-Print-default.is-0) c.answer_mode.ensures.ok

pub returns-in-Times-None-clause-ok : goal.returns-in-Times-None-clause-ok
returns-in-Times-None-clause-ok c =
    let r = c.answer_times.result in let limits = c.args.limits.now in let query = c.args.query.now in let t = tree_of c.args.expr in
    subst (λ w. IfOk r (λ s. IsWantedAnswer limits query (option_map (λ s. s.now) c.args.matcher) w t (string_bytes s))) (sym c.in-Times-None.is-0)
    (subst (λ m. IfOk r (λ s. IsWantedAnswer limits query (option_map (λ s. s.now) m) (Times c.in-Times-None.times) t (string_bytes s))) (sym c.in-Times-None.is-1) c.answer_times.ensures.ok)

pub returns-in-Times-Some-clause-ok : goal.returns-in-Times-Some-clause-ok
returns-in-Times-Some-clause-ok c =
    let r = c.answer_enforced_times.result in let limits = c.args.limits.now in let query = c.args.query.now in let t = tree_of c.args.expr in
    subst (λ w. IfOk r (λ s. IsWantedAnswer limits query (option_map (λ s. s.now) c.args.matcher) w t (string_bytes s))) (sym c.in-Times-Some.is-0)
    (subst (λ m. IfOk r (λ s. IsWantedAnswer limits query (option_map (λ s. s.now) m) (Times c.in-Times-Some.times) t (string_bytes s))) (sym c.in-Times-Some.is-1) c.answer_enforced_times.ensures.ok)

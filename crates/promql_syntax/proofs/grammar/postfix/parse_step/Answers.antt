use Rattle.std.proofs.Common.{◌∙◌, refl, ap, ap₂, List, Some}
use Rattle.std.proofs.lemmas.Result.{err_from_is_err_and}
use Rattle.promql_grammar.specs.declared.token_kinds.TokenKind.TheVariants as kind
use Rattle.promql_grammar.specs.GrammarParts.{Time, subquery}
use Rattle.promql_grammar.specs.Parsing.{parse_step, parse_step_end, parse_time}
use Rattle.promql_grammar.specs.Results.{◌then◌}
use Rattle.promql_grammar.specs.Symbols.{Symbol}
use Rattle.promql_grammar.specs.Eating.{HasNo}
use Rattle.promql_grammar.specs.Failures.{Failure, Fails}
use Rattle.promql_syntax.specs.Postfixes.{subquery_change}
use Rattle.promql_syntax.proofs.parsing.PartSteps.{some_step, step_open}
use Rattle.promql_syntax.proofs.parsing.ResultSteps.{fails_same, fails_then}
use Rattle.promql_syntax.proofs.grammar.postfix.parse_step.Goals as goal

-- no time is the step
step_fails : (e : Failure) (t : Time) (ts : List Symbol) → HasNo kind.RightBracket ts → Fails e (parse_time ts) → Fails e (parse_step t ts)
step_fails e t ts none fails = fails_same e _ _ (some_step t ts none) (fails_then e (parse_time ts) (λ s. parse_step_end t s.0 s.1) fails)

pub returns-in_err-step-clause-gives : goal.returns-in_err-step-clause-gives
returns-in_err-step-clause-gives c = λ n t is_range.
    let same = err_from_is_err_and c.from_residual.result c.from_residual.ensures.1 in
    let fails = rw (c.if-eat.ensures.stays refl) at c.in_err-step.ensures.gives in
    rw (same.1, same.2) (step_fails _ t _ c.if-eat.ensures.gives fails)

pub returns-in_err-expect-clause-gives :
    goal.returns-in_err-expect-clause-gives
returns-in_err-expect-clause-gives c = λ n t is_range.
    let same = err_from_is_err_and c.from_residual-in_err-expect.result c.from_residual-in_err-expect.ensures.1 in
    let fails = c.in_err-expect.ensures.fails in
    let read = rw (c.if-eat.ensures.stays refl) at c.in_ok-step.ensures.gives in
    rw (same.1, same.2, fails.0, c.in_err-expect.ensures.stays) (step_open t _ _ read.part c.if-eat.ensures.gives read.is fails.1)

pub returns-clause-gives : goal.returns-clause-gives
returns-clause-gives c = λ n t is_range.
    let read = rw (c.if-eat.ensures.stays refl) at c.in_ok-step.ensures.gives in
    record {
      part = subquery t (Some read.part);
      is =
          some_step t _ c.if-eat.ensures.gives ∙ ap (λ o. o then λ s. parse_step_end t s.0 s.1) read.is
          ∙ ap (parse_step_end t read.part) c.in_ok-expect.ensures.gives.first;
      built = record {
        value = c.subquery_postfix-2.ensures.value ∙ ap₂ subquery_change is_range (ap Some read.built);
        adds = c.subquery_postfix-2.ensures.height;
        moment = λ fits. tt;
      };
    }

use Rattle.std.proofs.Common.{inl, string_bytes, subst}
use Rattle.promql_grammar.specs.Results.{on_result}
use Rattle.promql_c.specs.CallSteps.{EnforcesBytes}
use Rattle.promql_c.proofs.enforcing.enforce_query.Goals as goal

pub returns : goal.returns
returns c =
    inl (
      c.in-Ok.ensures.cases.1,
      subst (λ query. EnforcesBytes c.args.limits.now query c.args.matcher.now (on_result (λ s. string_bytes s) c.enforce_text.result)) c.in-Ok.ensures.cases.0 c.enforce_text.ensures,
    )

use Rattle.std.proofs.Common.{inl, string_bytes, subst}
use Rattle.promql_grammar.specs.Results.{on_result}
use Rattle.promql_query.specs.EnforcedLines.{IsEnforcedLine}
use Rattle.promql_c.proofs.MadeTexts.{made}
use Rattle.promql_c.proofs.enforcing.enforce_text.Goals as goal

pub returns-in-Ok : goal.returns-in-Ok
returns-in-Ok c =
    let limits = c.args.limits.now in let query = c.args.query.now in
    inl (
      c.in-Ok.ensures.cases.1,
      subst (λ matcher. IsEnforcedLine limits query matcher (on_result (λ s. string_bytes s) c.enforced_line.result)) c.in-Ok.ensures.cases.0
          (made (IsEnforcedLine limits query c.in-Ok.matcher.now) c.enforced_line.result c.enforced_line.ensures.ok c.enforced_line.ensures.err),
    )

pub returns-in-Err : goal.returns-in-Err
returns-in-Err c = c.error_of_broken_matcher.ensures c.args.matcher.now c.in-Err.ensures.cases.0

use Rattle.std.proofs.Common.{Some, ap, subst, ◌∙◌}
use Rattle.promql_run.specs.declared.format.Format.TheVariants.{Line}
use Rattle.promql_query.specs.declared.mode.Mode.TheVariants.{Plain}
use Rattle.promql_span.specs.Targets.{for_rules}
use Rattle.promql_c.specs.CallResults.{ShowsSome}
use Rattle.promql_c.specs.Calls.{IsPrintOf}
use Rattle.promql_c.proofs.call_canonical.Goals as goal

pub returns : goal.returns
returns c =
    subst (λ limits. ShowsSome (IsPrintOf limits c.args.query.now (Some (Plain Line))) c.canonical.result c.args.buffer.now c.canonical.new.buffer)
    (c.for_rules.ensures ∙ ap for_rules c.limits.ensures)
    c.canonical.ensures

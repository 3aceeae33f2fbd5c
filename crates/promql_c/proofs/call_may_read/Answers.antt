use Rattle.std.proofs.Common.{ap, subst, ◌∙◌}
use Rattle.promql_span.specs.Targets.{for_rules}
use Rattle.promql_c.specs.CallResults.{ShowsSome}
use Rattle.promql_c.specs.Calls.{IsMayReadOf}
use Rattle.promql_c.proofs.call_may_read.Goals as goal

pub returns : goal.returns
returns c =
    subst (λ limits. ShowsSome (IsMayReadOf limits c.args.query.now c.args.labels.now) c.may_read.result c.args.buffer.now c.may_read.new.buffer)
    (c.for_rules.ensures ∙ ap for_rules c.limits.ensures)
    c.may_read.ensures

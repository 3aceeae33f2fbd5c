use Rattle.std.proofs.Common.{ap, subst, ◌∙◌}
use Rattle.promql_span.specs.Targets.{for_rules}
use Rattle.promql_c.specs.CallResults.{ShowsSome}
use Rattle.promql_c.specs.CallTimes.{times_of}
use Rattle.promql_c.specs.Calls.{IsReachesOf}
use Rattle.promql_c.proofs.call_reaches.Goals as goal

pub returns : goal.returns
returns c =
    subst (λ limits. ShowsSome (IsReachesOf limits (times_of c.args.times.now) c.args.query.now) c.reaches.result c.args.buffer.now c.reaches.new.buffer)
    (c.for_rules.ensures ∙ ap for_rules c.limits.ensures)
    (subst (λ ts. ShowsSome (IsReachesOf c.for_rules.result ts c.args.query.now) c.reaches.result c.args.buffer.now c.reaches.new.buffer) c.times.ensures
    c.reaches.ensures)

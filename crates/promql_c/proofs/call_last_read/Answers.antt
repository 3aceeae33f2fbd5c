use Rattle.std.proofs.Common.{ap, subst, ◌∙◌}
use Rattle.promql_span.specs.Targets.{for_rules}
use Rattle.promql_c.specs.CallResults.{ShowsSome}
use Rattle.promql_c.specs.CallTimes.{times_of}
use Rattle.promql_c.specs.Calls.{IsLastReadOf}
use Rattle.promql_c.proofs.RealTimes.{at_time}
use Rattle.promql_c.proofs.call_last_read.Goals as goal

pub returns : goal.returns
returns c =
    let query = c.args.query.now in let x = c.args.time in
    subst (λ limits. ShowsSome (IsLastReadOf limits (times_of c.args.times.now) x query) c.last_read.result c.args.buffer.now c.last_read.new.buffer)
    (c.for_rules.ensures ∙ ap for_rules c.limits.ensures)
    (subst (λ ts. ShowsSome (IsLastReadOf c.for_rules.result ts x query) c.last_read.result c.args.buffer.now c.last_read.new.buffer) c.times.ensures
    (at_time (λ x. ShowsSome (IsLastReadOf c.for_rules.result c.times.result x query) c.last_read.result c.args.buffer.now c.last_read.new.buffer) x c.ranges.time
    c.last_read.ensures))

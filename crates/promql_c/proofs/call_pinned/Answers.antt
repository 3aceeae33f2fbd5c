use Rattle.std.proofs.Common.{ap, subst, ◌∙◌}
use Rattle.promql_span.specs.Targets.{for_rules}
use Rattle.promql_c.specs.CallResults.{ShowsSome}
use Rattle.promql_c.specs.Calls.{IsPinnedOf}
use Rattle.promql_c.proofs.RealTimes.{at_times}
use Rattle.promql_c.proofs.call_pinned.Goals as goal

pub returns : goal.returns
returns c =
    let query = c.args.query.now in let start = c.args.start in let end = c.args.end in
    subst (λ limits. ShowsSome (IsPinnedOf limits start end query) c.pinned.result c.args.buffer.now c.pinned.new.buffer)
    (c.for_rules.ensures ∙ ap for_rules c.limits.ensures)
    (at_times (λ x y. ShowsSome (IsPinnedOf c.for_rules.result x y query) c.pinned.result c.args.buffer.now c.pinned.new.buffer)
    start end c.ranges.start c.ranges.end c.pinned.ensures)

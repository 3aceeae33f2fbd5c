use Rattle.std.proofs.Common.{string_bytes}
use Rattle.promql_grammar.specs.Results.{on_result}
use Rattle.promql_c.specs.Calls.{IsPinnedOf}
use Rattle.promql_c.proofs.RealTimes.{at_times}
use Rattle.promql_c.proofs.calls.pinned.Goals as goal

pub returns : goal.returns
returns c =
    let made = on_result (λ s. string_bytes s) c.tell_query-made.result in (
      made,
      at_times (λ x y. IsPinnedOf c.args.limits.now x y c.args.query.now made) c.args.start c.args.end c.ranges.start c.ranges.end c.tell_query-made.ensures,
      c.show.ensures,
    )

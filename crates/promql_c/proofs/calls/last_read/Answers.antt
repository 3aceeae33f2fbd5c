use Rattle.std.proofs.Common.{string_bytes}
use Rattle.promql_grammar.specs.Results.{on_result}
use Rattle.promql_c.specs.Calls.{IsLastReadOf}
use Rattle.promql_c.proofs.RealTimes.{at_time}
use Rattle.promql_c.proofs.calls.last_read.Goals as goal

pub returns : goal.returns
returns c =
    let made = on_result (λ s. string_bytes s) c.tell_query-made.result in (
      made,
      at_time (λ x. IsLastReadOf c.args.limits.now c.args.times.now x c.args.query.now made) c.args.time c.ranges.time c.tell_query-made.ensures,
      c.show.ensures,
    )

use Rattle.std.proofs.Common.{◌≡◌, ◌++◌, [], length, map}
use Rattle.promql_token.specs.Cursor.{tokens_left}
use Rattle.promql_span.specs.DifferenceSteps.{matched}
use Rattle.promql_span.specs.Differences.{matched_labels}
use Rattle.promql_span.proofs.differences.matched_labels.Given as goal

abbrev pub decreases-loop-id : goal.decreases-loop-id
decreases-loop-id l = length (tokens_left l.rest)

-- the matchers so far and those to come are all
abbrev pub invariant-loop-id : goal.invariant-loop-id
invariant-loop-id l = map matched l.found.items ++ matched_labels l.label (tokens_left l.rest) ≡ matched_labels [] (tokens_left l.tokens)

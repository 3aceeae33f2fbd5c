use Rattle.std.proofs.Common.{length}
use Rattle.promql_token.specs.Cursor.{tokens_left}
use Rattle.promql_span.specs.Inspections.{IsInspected}
use Rattle.promql_span.proofs.inspection.inspect_all_tokens.Given as goal

abbrev pub decreases-loop-token : goal.decreases-loop-token
decreases-loop-token l = length (tokens_left l.tokens)

abbrev pub invariant-loop-token : goal.invariant-loop-token
invariant-loop-token l = IsInspected l.limits l.query (tokens_left l.tokens) l.inspection

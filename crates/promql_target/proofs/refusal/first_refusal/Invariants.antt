use Rattle.std.proofs.Common.{length}
use Rattle.promql_token.specs.Cursor.{tokens_left}
use Rattle.promql_target.specs.Searching.{IsSearched}
use Rattle.promql_target.proofs.refusal.first_refusal.Given as goal

abbrev pub decreases-loop-token : goal.decreases-loop-token
decreases-loop-token l = length (tokens_left l.tokens)

abbrev pub invariant-loop-token : goal.invariant-loop-token
invariant-loop-token l = IsSearched l.target l.query (tokens_left l.tokens) l.found

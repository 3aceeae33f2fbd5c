use Rattle.std.proofs.Common.{◌≡◌, ◌++◌, ◌∷◌, length}
use Rattle.json.specs.Print.{escape}
use Rattle.promql_query.proofs.quoted_query.unquoted.Given as goal

abbrev pub invariant-loop-found : goal.invariant-loop-found
invariant-loop-found l = 34 ∷ (escape l.found.items ++ l.rest) ≡ l.line

abbrev pub decreases-loop-found : goal.decreases-loop-found
decreases-loop-found l = length l.rest

use Rattle.std.proofs.Common.{length}
use Rattle.promql_places.specs.CursorTokens.{kinds_left}
use Rattle.promql_places.specs.PartSteps.{shifts}
use Rattle.promql_places.proofs.TakeSteps.{TakesAsAll}
use Rattle.promql_places.proofs.token_cursor.TokenCursor.take_shifts.Given as goal

abbrev pub decreases-loop-self : goal.decreases-loop-self
decreases-loop-self l = length (kinds_left l.self)

-- where the rest is taken, all is
abbrev pub invariant-loop-self : goal.invariant-loop-self
invariant-loop-self l = TakesAsAll shifts l.initial.self l.self l.initial.parts.items l.parts.items

use Rattle.std.proofs.Common.{length}
use Rattle.promql_places.specs.CursorTokens.{kinds_left}
use Rattle.promql_places.specs.PartSteps.{items}
use Rattle.promql_places.proofs.TakeSteps.{TakesAsAll}
use Rattle.promql_places.proofs.token_cursor.TokenCursor.take_items.Given as goal

abbrev pub decreases-loop-kind : goal.decreases-loop-kind
decreases-loop-kind l = length (kinds_left l.self)

-- where the rest is taken, all is
abbrev pub invariant-loop-kind : goal.invariant-loop-kind
invariant-loop-kind l = TakesAsAll (items l.kind) l.initial.self l.self l.initial.parts.items l.parts.items

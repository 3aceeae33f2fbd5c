use Rattle.std.proofs.Common.{ap}
use Rattle.promql_span.specs.TokensLeft.{placed_left}
use Rattle.promql_places.specs.CursorTokens.{with_first}
use Rattle.promql_places.proofs.CursorSteps.{moved_by_one, next_first}
use Rattle.promql_places.proofs.token_cursor.TokenCursor.bump.Goals as goal

pub returns-in-Some : goal.returns-in-Some
returns-in-Some c =
    moved_by_one c.args.self.now _ c.in-Some.token (placed_left c.args.self.now.rest) (ap (λ o. with_first o (placed_left c.args.self.now.rest)) c.in-Some.is)
    (next_first c.next-self.result c.args.self.now.rest c.next-self.new.self c.next-self.ensures.steps) c.saturating_add-self.ensures

use Rattle.std.proofs.Common.{◌≡◌, length}
use Rattle.promql_text.specs.Texts.{Text}
use Rattle.promql_places.specs.CursorTokens.{IsOver, kinds_left}
use Rattle.promql_places.specs.Skipping.{skip_item}
use Rattle.promql_places.proofs.token_cursor.TokenCursor.skip_item.Given as goal

abbrev pub decreases-loop-self : goal.decreases-loop-self
decreases-loop-self l = length (kinds_left l.self)

-- what is left is skipped in the same way
abbrev pub invariant-loop-self : goal.invariant-loop-self
invariant-loop-self l = (skip_item (kinds_left l.self) ≡ skip_item (kinds_left l.initial.self)) × ((s : Text) → IsOver s l.initial.self → IsOver s l.self)

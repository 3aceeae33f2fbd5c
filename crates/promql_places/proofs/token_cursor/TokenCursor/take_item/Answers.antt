use Rattle.std.proofs.Common.{drop}
use Rattle.promql_places.specs.CursorTokens.{Moved, kinds_left}
use Rattle.promql_places.specs.Skipping.{skip_item, skip_separator}
use Rattle.promql_places.proofs.TakeSteps.{added_from, moved_then, takes_part, takes_skip}
use Rattle.promql_places.proofs.token_cursor.TokenCursor.take_item.Goals as goal

pub returns : goal.returns
returns c =
    let a = c.args.self.now in
    let b = c.skip_item.new.self in
    let moved : Moved (skip_item (drop 1 (kinds_left a))) a b = moved_then (drop 1 (kinds_left a)) skip_item a c.bump.new.self b c.bump.ensures c.skip_item.ensures in
    takes_skip _ skip_separator a b c.skip_separator.new.self c.args.parts.now.items c.push_part.new.parts.items
    (takes_part c.args.kind (skip_item (drop 1 (kinds_left a))) a b c.args.parts.now.items c.push_part.new.parts.items moved (added_from c.args.kind _ _ _ _ _ c.start-start.ensures c.in_ok-push_part.ensures))
    c.skip_separator.ensures

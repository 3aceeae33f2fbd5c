use Rattle.std.proofs.Common.{drop}
use Rattle.promql_ast.proofs.nodes.ChangedLists.{on_ok}
use Rattle.promql_places.specs.CursorTokens.{kinds_left}
use Rattle.promql_places.proofs.TakeSteps.{added_from, takes_part}
use Rattle.promql_places.proofs.token_cursor.TokenCursor.take_word.Goals as goal

pub returns : goal.returns
returns c =
    let a = c.args.self.now in
    on_ok c.push_part.result _ _
    (λ added. takes_part c.args.kind (drop 1 (kinds_left a)) a c.bump.new.self c.args.parts.now.items c.push_part.new.parts.items c.bump.ensures (added_from c.args.kind _ _ _ _ _ c.start-start.ensures added))
    c.push_part.ensures

use Rattle.promql_ast.proofs.nodes.ChangedLists.{on_ok}
use Rattle.std.proofs.Common.{◌++◌, ◌∷◌, [], length}
use Rattle.promql_places.specs.CursorTokens.{kinds_left}
use Rattle.promql_places.specs.PartSteps.{Step, and_then, selector, shifts}
use Rattle.promql_places.specs.Skipping.{skip_signs}
use Rattle.promql_places.specs.declared.parts.PartKind.TheVariants as part
use Rattle.promql_places.proofs.TakeSteps.{added_from, takes_after, takes_then, takes_whole}
use Rattle.promql_places.proofs.token_cursor.TokenCursor.take_ranged.Goals as goal

pub returns : goal.returns
returns c =
    let b = c.skip_signs.new.self in
    let d = c.take_shifts.new.self in
    let had = c.args.parts.now.items in
    let mid = c.take_shifts.new.parts.items in
    let whole : Step = λ ks. (let r = and_then (selector ks) shifts in (r.0 ++ (part.Selector, (length ks, length r.1)) ∷ [], r.1)) in
    on_ok c.push_part.result _ _
    (λ added. takes_after (skip_signs (kinds_left c.args.self.now)) whole c.args.self.now b d had c.push_part.new.parts.items c.skip_signs.ensures
    (takes_whole part.Selector (and_then (selector (kinds_left b)) shifts) b d had mid c.push_part.new.parts.items
    (takes_then (selector (kinds_left b)) shifts b c.take_selector.new.self d had c.take_selector.new.parts.items mid c.in_ok-take_selector.ensures c.in_ok-take_shifts.ensures) (added_from part.Selector _ _ _ _ _ c.start-start.ensures added)))
    c.push_part.ensures

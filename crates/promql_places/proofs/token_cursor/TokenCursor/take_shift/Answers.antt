use Rattle.std.proofs.Common.{◌≡◌, ◌∙◌, ap, subst}
use Rattle.promql_ast.proofs.nodes.ChangedLists.{on_ok}
use Rattle.promql_places.specs.CursorTokens.{kinds_left}
use Rattle.promql_places.specs.PartSteps.{Takes, shift_kind, whole}
use Rattle.promql_places.specs.Skipping.{front, skip_shift}
use Rattle.promql_places.proofs.TakeSteps.{added_from, takes_part}
use Rattle.promql_places.proofs.token_cursor.TokenCursor.take_shift.Goals as goal

pub returns : goal.returns
returns c =
    let a = c.args.self.now in
    let p = c.shift_kind-kind.result in
    let same : p ≡ shift_kind (front (kinds_left a)) = c.shift_kind-kind.ensures ∙ ap shift_kind c.kind.ensures in
    on_ok c.push_part.result _ _
    (λ added. subst (λ q. Takes (whole q skip_shift (kinds_left a)) a c.skip_shift.new.self c.args.parts.now.items c.push_part.new.parts.items) same
    (takes_part p (skip_shift (kinds_left a)) a c.skip_shift.new.self c.args.parts.now.items c.push_part.new.parts.items c.skip_shift.ensures (added_from p _ _ _ _ _ c.start-start.ensures added)))
    c.push_part.ensures

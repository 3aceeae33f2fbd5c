use Rattle.std.proofs.Common.{◌≡◌, ◌∙◌, ap, arith, drop, false, length, sym, true}
use Rattle.promql_places.specs.CursorTokens.{kinds_left}
use Rattle.promql_places.specs.PartSteps.{item, items}
use Rattle.promql_places.specs.Skipping.{ends_list}
use Rattle.promql_places.proofs.TakeSteps.{item_first, no_item, one_shorter, takes_as, takes_none, takes_one, takes_skip}
use Rattle.promql_places.proofs.token_cursor.TokenCursor.take_items.Goals as goal

pub loop-kind-smaller : goal.loop-kind-smaller
loop-kind-smaller c =
    let more : ends_list (kinds_left c.loop-kind.self) ≡ false = sym c.ends_list.ensures ∙ c.loop-kind-test.true in
    let shorter = one_shorter c.args.kind (kinds_left c.loop-kind.self) more in
    omega (arith, ap length c.in_ok-take_item.ensures.to)

pub loop-kind-preserved : goal.loop-kind-preserved
loop-kind-preserved c =
    let more : ends_list (kinds_left c.loop-kind.self) ≡ false = sym c.ends_list.ensures ∙ c.loop-kind-test.true in
    takes_one (items c.args.kind) (item c.args.kind) c.args.self.now c.loop-kind.self c.take_item.new.self c.args.parts.now.items c.loop-kind.parts.items c.take_item.new.parts.items
    (item_first c.args.kind (kinds_left c.loop-kind.self) more) c.in_ok-take_item.ensures c.loop-kind.invariant

pub returns : goal.returns
returns c =
    let now = c.loop-kind.self in
    let parts = c.loop-kind.parts.items in
    let done : ends_list (kinds_left now) ≡ true = sym c.ends_list.ensures ∙ c.loop-kind-test.false in
    c.loop-kind.invariant c.bump.new.self parts
    (takes_as _ _ now c.bump.new.self parts parts (sym (no_item c.args.kind (kinds_left now) done)) (takes_skip _ (drop 1) now now c.bump.new.self parts parts (takes_none now parts) c.bump.ensures))

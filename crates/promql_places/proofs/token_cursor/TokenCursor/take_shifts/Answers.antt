use Rattle.std.proofs.Common.{◌≡◌, ◌∙◌, ap, arith, false, length, sym, true}
use Rattle.promql_places.specs.CursorTokens.{kinds_left}
use Rattle.promql_places.specs.PartSteps.{shift, shifts}
use Rattle.promql_places.specs.Skipping.{front, is_shift}
use Rattle.promql_places.proofs.TakeSteps.{no_shift, shift_first, shift_shorter, takes_as, takes_none, takes_one}
use Rattle.promql_places.proofs.token_cursor.TokenCursor.take_shifts.Goals as goal

pub loop-self-smaller : goal.loop-self-smaller
loop-self-smaller c =
    let is : is_shift (front (kinds_left c.loop-self.self)) ≡ true = sym (ap is_shift c.kind.ensures) ∙ sym c.is_shift.ensures ∙ c.loop-self-test.true in
    let shorter = shift_shorter (kinds_left c.loop-self.self) is in
    omega (arith, ap length c.in_ok-take_shift.ensures.to)

pub loop-self-preserved : goal.loop-self-preserved
loop-self-preserved c =
    let is : is_shift (front (kinds_left c.loop-self.self)) ≡ true = sym (ap is_shift c.kind.ensures) ∙ sym c.is_shift.ensures ∙ c.loop-self-test.true in
    takes_one shifts shift c.args.self.now c.loop-self.self c.take_shift.new.self c.args.parts.now.items c.loop-self.parts.items c.take_shift.new.parts.items (shift_first (kinds_left c.loop-self.self) is)
    c.in_ok-take_shift.ensures c.loop-self.invariant

pub returns : goal.returns
returns c =
    let is : is_shift (front (kinds_left c.loop-self.self)) ≡ false = sym (ap is_shift c.kind.ensures) ∙ sym c.is_shift.ensures ∙ c.loop-self-test.false in
    c.loop-self.invariant c.loop-self.self c.loop-self.parts.items
    (takes_as _ _ c.loop-self.self c.loop-self.self c.loop-self.parts.items c.loop-self.parts.items (sym (no_shift (kinds_left c.loop-self.self) is)) (takes_none c.loop-self.self c.loop-self.parts.items))

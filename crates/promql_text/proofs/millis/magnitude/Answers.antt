use Rattle.std.proofs.Common.{◌-◌, ◌*◌, ◌^◌, ◌∙◌, ap, arith}
use Rattle.promql_text.specs.Millis.{millis}
use Rattle.promql_text.specs.Rounding.{round_half_up}
use Rattle.promql_text.proofs.durations.Quotients.{millis_of_places, millis_of_zeros, millis_if_short}
use Rattle.promql_text.proofs.millis.magnitude.Goals as goal

pub returns-then-seconds-gt3 : goal.returns-then-seconds-gt3
returns-then-seconds-gt3 c =
    c.round_quotient.ensures.value
    ∙ ap (λ n. round_half_up n (10 ^ (c.seconds.inside.places - 3))) c.get.ensures
    ∙ millis_of_places c.seconds.inside.digits c.seconds.inside.zeros c.seconds.inside.places (c.seconds.invariant.one_side (omega arith)) c.if-seconds-gt3.true
    ∙ ap millis c.seconds.view_is

pub returns-else-seconds-gt3 : goal.returns-else-seconds-gt3
returns-else-seconds-gt3 c =
    millis_if_short c.append_zeros.result (c.seconds.inside.digits * 10 ^ c.from.result) (millis c.args.seconds.now)
    (ap (λ k. c.seconds.inside.digits * 10 ^ k) c.from.ensures
    ∙ millis_of_zeros c.seconds.inside.digits c.seconds.inside.zeros c.seconds.inside.places c.if-seconds-gt3.false
    ∙ ap millis c.seconds.view_is)
    (rw (← c.get-else-seconds-gt3.ensures) c.append_zeros.ensures)

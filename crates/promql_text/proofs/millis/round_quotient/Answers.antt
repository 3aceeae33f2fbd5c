use Rattle.std.proofs.Common.{◌≡◌, ◌<◌, ◌%◌, ◌^◌, ◌∙◌, ap, arith}
use Rattle.std.proofs.Math.Nat.{mod-lt}
use Rattle.promql_text.specs.Rounding as spec
use Rattle.promql_text.proofs.durations.Quotients.{round_down, round_up, round_none}
use Rattle.promql_text.proofs.numerals.Points.{power_within}
use Rattle.promql_text.proofs.numbers.Tens.{ten_pos}
use Rattle.promql_text.proofs.millis.round_quotient.Goals as goal

pub returns-then-places-gt38-clause-value : goal.returns-then-places-gt38-clause-value
returns-then-places-gt38-clause-value c = round_none c.args.digits c.args.places c.requires c.if-places-gt38.true

pub pow-power-requires : goal.pow-power-requires
pow-power-requires c = power_within c.from.result (omega arith)

pub nonzero_div-quotient : goal.nonzero_div-quotient
nonzero_div-quotient c = let h = ten_pos c.from.result in omega (arith, h)

pub nonzero_rem-rest : goal.nonzero_rem-rest
nonzero_rem-rest c = let h = ten_pos c.from.result in omega (arith, h)

pub overflow_sub-power : goal.overflow_sub-power
overflow_sub-power c =
    let h = ten_pos c.from.result in
    let some : 0 < c.pow-power.result = omega (arith, h) in
    let less : c.args.digits % c.pow-power.result < c.pow-power.result = mod-lt c.args.digits some in
    omega (arith, less)

pub returns-else-rest-power-clause-value : goal.returns-else-rest-power-clause-value
returns-else-rest-power-clause-value c =
    let h = ten_pos c.from.result in
    let power : c.pow-power.result ≡ 10 ^ c.args.places = c.pow-power.ensures ∙ ap (λ k. 10 ^ k) c.from.ensures in
    round_up c.args.digits c.pow-power.result (omega (arith, h)) c.if-rest-power.false ∙ ap (spec.round_half_up c.args.digits) power

pub returns-then-rest-power-clause-value : goal.returns-then-rest-power-clause-value
returns-then-rest-power-clause-value c =
    let h = ten_pos c.from.result in
    let power : c.pow-power.result ≡ 10 ^ c.args.places = c.pow-power.ensures ∙ ap (λ k. 10 ^ k) c.from.ensures in
    round_down c.args.digits c.pow-power.result (omega (arith, h)) c.if-rest-power.true ∙ ap (spec.round_half_up c.args.digits) power

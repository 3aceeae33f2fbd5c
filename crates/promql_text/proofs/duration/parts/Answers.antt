use Rattle.std.proofs.Common.{◌≡◌, ℕ, length, Option, lit<, ◌∙◌, sym, arith}
use Rattle.std.proofs.lemmas.Bool.{eqb-true}
use Rattle.promql_text.specs.Durations.{units, parts_nanos}
use Rattle.promql_text.proofs.durations.SaturatingParts.{nothing_yet, total_one, total_end}
use Rattle.promql_text.proofs.duration.parts.Goals as goal

pub loop-units-init : goal.loop-units-init
unfolding units
loop-units-init c = (nothing_yet (parts_nanos units c.args.text.now), lit< tt)

pub loop-units-preserved : goal.loop-units-preserved
loop-units-preserved c =
    let o : Option ℕ = parts_nanos c.in_ok-nanos.later.now c.in_ok-nanos.more.now in (
      total_one c.saturating_add-total.result c.loop-units.total c.in_ok-nanos.nanos o c.saturating_add-total.ensures
          ∙ c.in_ok-nanos.ensures.0 c.loop-units.total
          ∙ c.loop-units.invariant.0,
      omega arith,
    )

pub returns : goal.returns
returns c =
    let rest = c.loop-units.rest.now in
    let empty : length rest ≡ 0 = eqb-true (length rest) 0 (sym c.loop-units-test.ensures) in
    sym (total_end c.loop-units.total c.loop-units.units.now rest c.loop-units.invariant.1 empty) ∙ c.loop-units.invariant.0

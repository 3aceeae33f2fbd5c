use Rattle.std.proofs.Common.{◌++◌, ◌-◌, ◌/◌, [], refl, rules, arith}
use Rattle.std.specs.Fmt.{decimal}
use Rattle.std.proofs.Output.{has_written_append, has_written_of_eq}
use Rattle.promql_text.specs.DurationText.{fraction_text}
use Rattle.promql_text.proofs.numerals.Fractions.{fraction_more, fraction_below, fraction_done, fraction_all, ten_above}
use Rattle.promql_text.proofs.duration_text.FractionDisplay.fmt.Goals as goal

pub loop-place-init : goal.loop-place-init
loop-place-init g c = ((λ plain. ([], search rules, refl)), c.args.self.now.in_range)

pub nonzero_div-digit : goal.nonzero_div-digit
nonzero_div-digit g c = ten_above (8 - c.loop-place.place) c.pow-unit.result c.pow-unit.ensures

pub nonzero_rem-rest : goal.nonzero_rem-rest
nonzero_rem-rest g c = ten_above (8 - c.loop-place.place) c.pow-unit.result c.pow-unit.ensures

pub loop-place-preserved : goal.loop-place-preserved
loop-place-preserved g c =
    let place = c.loop-place.place in
    let rest = c.loop-place.rest in
    let unit = c.pow-unit.result in (
      (λ plain.
          let had = c.loop-place.invariant.0 plain in (
            had.0 ++ decimal (rest / unit),
            has_written_append _ _ _ _ _ _ had.1 (search rules),
            fraction_more had.0 (fraction_text 9 c.args.self.now.nanos) place rest unit (omega arith) c.if-rest-eq0.false c.loop-place.invariant.1 c.pow-unit.ensures had.2,
          )),
      fraction_below place rest unit c.pow-unit.ensures (omega arith),
    )

pub returns-then-rest-eq0-clause-writes : goal.returns-then-rest-eq0-clause-writes
returns-then-rest-eq0-clause-writes g c = λ plain ok.
    let had = c.loop-place.invariant.0 plain in
    has_written_of_eq _ _ _ _ _ (fraction_done had.0 (fraction_text 9 c.args.self.now.nanos) (9 - c.loop-place.place) c.loop-place.rest c.if-rest-eq0.true had.2) had.1

pub returns-clause-writes : goal.returns-clause-writes
returns-clause-writes g c = λ plain ok.
    let had = c.loop-place.invariant.0 plain in
    has_written_of_eq _ _ _ _ _ (fraction_all had.0 (fraction_text 9 c.args.self.now.nanos) c.loop-place.place c.loop-place.rest c.loop-place-test.false had.2) had.1

use Rattle.std.proofs.Common.{◌%◌, ◌^◌, ◌∙◌, ap, arith}
use Rattle.promql_text.specs.Numbers.{digit_count}
use Rattle.promql_text.proofs.numerals.Points.{part_count}
use Rattle.promql_text.proofs.display.MagnitudeDisplay.fmt.Goals as goal

pub overflow_sub-zeros : goal.overflow_sub-zeros
overflow_sub-zeros g c =
    let room = part_count c.number.inside.digits c.number.inside.places (omega arith) c.number.invariant.short in
    let count = c.digit_count.ensures.value ∙ ap digit_count (c.split_at_point-whole.ensures.1 ∙ ap (λ n. n % 10 ^ c.number.inside.places) c.get.ensures) in
    omega (arith, room, count)

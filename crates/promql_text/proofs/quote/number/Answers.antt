use Rattle.std.proofs.Common.{ℕ, ◌+◌, ◌-◌, ◌*◌, ◌<◌, ◌≤◌, length, sym, ap, ◌∙◌, arith, length-append}
use Rattle.std.specs.Char.{digit_value}
use Rattle.std.specs.Str.Iter.{chars_rest}
use Rattle.promql_text.specs.Quoting.{number}
use Rattle.promql_text.proofs.quoting.Quotes.{more_left, room, room_now, number-digit, number-other, number-end, drop-digit}
use Rattle.promql_text.proofs.quote.number.Goals as goal

pub overflow_mul-value : goal.overflow_mul-value
overflow_mul-value c =
    let more = more_left c.args.count c.loop-i.i (omega arith) in
    let fits = rw more at c.loop-i.invariant.2 in
    omega (arith, room_now c.loop-i.value c.args.base 0 (c.args.count - (c.loop-i.i + 1)) (omega arith) fits)

pub overflow_add-value : goal.overflow_add-value
overflow_add-value c =
    let more = more_left c.args.count c.loop-i.i (omega arith) in
    let fits = rw more at c.loop-i.invariant.2 in
    let digit : c.in_ok-value.field-0 < c.args.base = omega (arith, c.in_ok-value.ensures.value) in
    omega (arith, room_now c.loop-i.value c.args.base c.in_ok-value.field-0 (c.args.count - (c.loop-i.i + 1)) digit fits)

pub returns-in_err-next-clause-value : goal.returns-in_err-next-clause-value
returns-in_err-next-clause-value c =
    let more = more_left c.args.count c.loop-i.i (omega arith) in
    let same = rw more at c.loop-i.invariant.0 in
    let ends = number-end c.args.base (c.args.count - (c.loop-i.i + 1)) c.loop-i.value (chars_rest c.loop-i.rest) c.in_err-next.ensures.steps.0.0 in
    rw c.from_residual.ensures (sym same ∙ ends)

pub returns-in_err-value-clause-value : goal.returns-in_err-value-clause-value
returns-in_err-value-clause-value c =
    let more = more_left c.args.count c.loop-i.i (omega arith) in
    let same = rw more at c.loop-i.invariant.0 in
    let front = c.in_ok-next.ensures.steps.0 in
    let other : c.args.base ≤ digit_value c.in_ok-next.field-0 = omega (arith, c.in_err-value.ensures.value) in
    let ends = number-other c.args.base (c.args.count - (c.loop-i.i + 1)) c.loop-i.value c.in_ok-next.field-0 (chars_rest c.next.new.self) (omega arith) other in
    rw c.from_residual-in_err-value.ensures (sym (rw front at same) ∙ ends)

pub loop-i-preserved : goal.loop-i-preserved
loop-i-preserved c =
    let left : ℕ = c.args.count - (c.loop-i.i + 1) in
    let more = more_left c.args.count c.loop-i.i (omega arith) in
    let front = c.in_ok-next.ensures.steps.0 in
    let digit = c.in_ok-value.ensures.value.0 in
    let is = c.in_ok-value.ensures.value.1 in
    let low : c.in_ok-value.field-0 < c.args.base = omega (arith, digit, is) in
    let same = rw front at (rw more at c.loop-i.invariant.0) in
    let rests = rw front at (rw more at c.loop-i.invariant.1) in
    let fits = rw more at c.loop-i.invariant.2 in
    let reads = number-digit c.args.base left c.loop-i.value c.in_ok-next.field-0 (chars_rest c.next.new.self) (omega arith) digit in
    let drops = drop-digit c.args.base left c.in_ok-next.field-0 (chars_rest c.next.new.self) (omega arith) digit in (
      ap (λ d. number c.args.base left (c.loop-i.value * c.args.base + d) (chars_rest c.next.new.self)) is ∙ sym reads ∙ same,
      sym drops ∙ rests,
      room c.loop-i.value c.args.base c.in_ok-value.field-0 left low fits,
      omega (arith, c.loop-i.invariant.3, simp length-append at (ap length front)),
    )

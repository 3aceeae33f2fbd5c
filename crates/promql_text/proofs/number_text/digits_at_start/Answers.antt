use Rattle.std.proofs.Common.{ℕ, List, arith}
use Rattle.promql_text.proofs.numerals.ShortDecimals.{read_digit, room_after, room_first}
use Rattle.promql_text.proofs.number_text.digits_at_start.Goals as goal

pub overflow_mul-number : goal.overflow_mul-number
overflow_mul-number g c =
    let room = room_first c.loop-c.number c.in-Some.c (g.S.Source.left c.loop-c.rest) (g.S.Source.left c.in-Some.more) c.in-Some.ensures.value c.loop-c.invariant.2 in
    omega (arith, room)

pub overflow_add-number : goal.overflow_add-number
overflow_add-number g c =
    let room = room_first c.loop-c.number c.in-Some.c (g.S.Source.left c.loop-c.rest) (g.S.Source.left c.in-Some.more) c.in-Some.ensures.value c.loop-c.invariant.2 in
    let small = c.in-Some-decimal_digit.ensures.2 in
    omega (arith, room, small)

pub loop-c-preserved : goal.loop-c-preserved
loop-c-preserved g c =
    let read = c.in-Some-decimal_digit in
    let t : List ℕ = g.S.Source.left c.loop-c.rest in
    let z : List ℕ = g.S.Source.left c.in-Some.more in
    let step = read_digit c.loop-c.number read.digit c.in-Some.c t z c.in-Some.ensures.value read.ensures.0 read.ensures.1 in
    let room = room_after c.loop-c.number read.digit c.in-Some.c t z c.in-Some.ensures.value read.ensures.2 c.loop-c.invariant.2 in
    (grind (arith, step), grind (arith, step), grind (arith, room))

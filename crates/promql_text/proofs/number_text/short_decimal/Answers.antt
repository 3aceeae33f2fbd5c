use Rattle.std.proofs.Common.{◌≡◌, ◌≢◌, ℕ, ◌≤◌, List, length, length-drop, ap, sym, ◌∙◌, arith}
use Rattle.std.proofs.lemmas.Bool.Decides.{nat_tests}
use Rattle.promql_text.specs.DecimalForm.{front}
use Rattle.promql_text.specs.NumberText.{read_number}
use Rattle.promql_text.proofs.numerals.ShortDecimals.{room_left, room_below, short_decimal, with_point}
use Rattle.promql_text.proofs.number_text.short_decimal.Goals as goal

pub digits_at_start-digits-requires : goal.digits_at_start-digits-requires
digits_at_start-digits-requires c =
    let whole = c.digits_at_start-whole in
    let shorter : length c.after_first-fraction.result.now ≤ length whole.result.1.now =
    (let cut = ap length c.after_first-fraction.ensures in let less = length-drop 1 whole.result.1.now in omega (arith, cut, less)) in
    room_left whole.result.0 (length whole.result.1.now) (length c.after_first-fraction.result.now) shorter whole.ensures.room

pub returns : goal.returns
returns c =
    let bytes : List ℕ = c.as_bytes-bytes.result.now in
    let whole = c.digits_at_start-whole in
    let fraction : List ℕ = c.after_first-fraction.result.now in
    let digits = c.digits_at_start-digits in
    let some : length whole.result.1.now ≢ length bytes = c.if-after-bytes.false in
    let point : front whole.result.1.now ≡ 46 = sym c.front.ensures ∙ c.if-front-ne46.false in
    let end : length digits.result.1.now ≡ 0 = grind (arith, nat_tests, c.if-not-is_empty.ensures) in
    let less = room_below digits.result.0 (length digits.result.1.now) digits.ensures.room in
    ap read_number (sym c.as_bytes-bytes.ensures.value)
    ∙ short_decimal bytes fraction whole.result.0 digits.result.0 c.with_places.result
    (with_point bytes whole.result.1.now fraction digits.result.1.now whole.ensures.rest some point c.after_first-fraction.ensures digits.ensures.rest end)
    whole.ensures.value digits.ensures.value (omega (arith, less)) c.with_places.ensures

use Rattle.std.proofs.Common.{◌≡◌, ℕ, ◌+◌, ◌∙◌, ap, min, cond, sym, ◌^◌, arith}
use Rattle.promql_text.specs.DecimalForm.{Numeral, exponent_size, places}
use Rattle.promql_text.specs.DecimalParts.{numeral_of}
use Rattle.promql_text.specs.Numbers.{from_digits}
use Rattle.promql_text.proofs.numbers.Finites.{capped_down, capped_up}
use Rattle.promql_text.proofs.number_text.at_place.Goals as goal

pub returns-then-numeral : goal.returns-then-numeral
returns-then-numeral g c =
    let n : Numeral = numeral_of g.S.Source.left c.args.numeral in
    let exponent_is : c.min-exponent.result ≡ min (exponent_size n) (10 ^ 30) = omega arith in
    let at = λ (d : ℕ). from_digits c.args.is_negative c.args.read.digits c.args.read.zeros d in
    let e : c.run_len-places.result + c.min-exponent.result ≡ places n + min (exponent_size n) (10 ^ 30) =
    ap (λ p. p + c.min-exponent.result) c.run_len-places.ensures.value ∙ ap (λ x. places n + x) exponent_is in
    c.from_digits.ensures ∙ ap at e
    ∙ capped_down c.args.is_negative c.args.read.digits c.args.read.zeros (places n) (exponent_size n) c.args.read.short c.requires
    ∙ sym (ap (λ b. cond b (from_digits c.args.is_negative c.args.read.digits c.args.read.zeros (places n + exponent_size n)) (from_digits c.args.is_negative c.args.read.digits (c.args.read.zeros + exponent_size n) (places n))) c.if-numeral.true)

pub returns-else-numeral : goal.returns-else-numeral
returns-else-numeral g c =
    let n : Numeral = numeral_of g.S.Source.left c.args.numeral in
    let exponent_is : c.min-exponent.result ≡ min (exponent_size n) (10 ^ 30) = omega arith in
    let few = c.run_len-places.ensures.small in
    let e = c.run_len-places.ensures.value in
    c.from_digits-else-numeral.ensures
    ∙ ap (λ p. from_digits c.args.is_negative c.args.read.digits (c.args.read.zeros + c.min-exponent.result) p) c.run_len-places.ensures.value
    ∙ ap (λ x. from_digits c.args.is_negative c.args.read.digits (c.args.read.zeros + x) (places n)) exponent_is
    ∙ capped_up c.args.is_negative c.args.read.digits c.args.read.zeros (places n) (exponent_size n) (omega (arith, few, e))
    ∙ sym (ap (λ b. cond b (from_digits c.args.is_negative c.args.read.digits c.args.read.zeros (places n + exponent_size n)) (from_digits c.args.is_negative c.args.read.digits (c.args.read.zeros + exponent_size n) (places n))) c.if-numeral.false)

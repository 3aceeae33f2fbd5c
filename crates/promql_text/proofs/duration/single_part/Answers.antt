use Rattle.std.proofs.Common.{◌≡◌, ℕ, ◌-◌, ◌*◌, ◌∷◌, [], List, None, Some, length, take, get_or, ap, sym, ◌∙◌, subst}
use Rattle.std.specs.Str.Parse.{digits_value}
use Rattle.promql_text.specs.DecimalForm.{decimal_form}
use Rattle.promql_text.specs.Durations.{nanos_of, parts_nanos, units}
use Rattle.promql_text.proofs.worked.Ends.{before_last}
use Rattle.promql_text.proofs.durations.SinglePart.{part_nanos, part_no_number}
use Rattle.promql_text.proofs.duration.single_part.Goals as goal

pub returns : goal.returns
returns c =
    let text : List ℕ = c.args.text.now in
    let ds : List ℕ = take (length text - 1) text in
    let word : List ℕ = get_or text (length text - 1) 0 ∷ [] in
    let unit = c.in_ok-unit.unit in
    let counted = c.in_ok-count.ensures.counted in
    let spelled = c.in_ok-unit.ensures in
    let count : c.from.result ≡ digits_value 10 ds = c.from.ensures ∙ counted.1 in
    let nanos : c.from-2.result ≡ nanos_of unit = c.from-2.ensures ∙ c.nanos.ensures in
    let product : digits_value 10 ds * nanos_of unit ≡ c.from.result * c.from-2.result = ap (λ n. n * nanos_of unit) (sym count) ∙ ap (λ n. c.from.result * n) (sym nanos) in
    let P : List ℕ → Type 0 = λ t. (decimal_form t ≡ None) × (parts_nanos units t ≡ Some (c.from.result * c.from-2.result)) in
    subst P (before_last text c.in-len1-up.len_at_least) (part_no_number ds word unit counted.0 spelled, part_nanos ds word unit counted.0 spelled ∙ ap Some product)

use Rattle.std.proofs.Common.{◌∙◌, get_or, sym, ap}
use Rattle.std.specs.Prelude.{◌==◌, ◌||◌}
use Rattle.promql_token.specs.Vocabulary.{is_exponent}
use Rattle.promql_token.proofs.values.Numerals.{digits_alone}
use Rattle.promql_token.proofs.cursors.TestsAndCounts.{or_false}
use Rattle.promql_token.proofs.numeral.number_end.Goals as goal

pub returns-else-may_go_on-clause-value : goal.returns-else-may_go_on-clause-value
returns-else-may_go_on-clause-value c =
    let z = c.args.z.now in
    let whole = c.end_of_run-whole in
    let next = get_or z whole.result 0 in
    let ends = ap (λ b. (b == 46) || (is_exponent b || ((b == 120) || (b == 88)))) (sym c.byte.ensures.value) ∙ (sym c.may_go_on.ensures ∙ c.if-may_go_on.false) in
    let point = or_false (next == 46) _ ends in
    let exponent = or_false (is_exponent next) _ point.1 in
    sym (digits_alone z whole.result whole.ensures.value point.0 exponent.0 exponent.1)

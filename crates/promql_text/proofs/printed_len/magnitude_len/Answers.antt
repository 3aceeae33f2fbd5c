use Rattle.std.proofs.Common.{◌/◌, ◌^◌, ap, sym, ◌∙◌}
use Rattle.promql_text.specs.Numbers.{digit_count}
use Rattle.promql_text.proofs.writing.PrintedLengths.{length_places_of}
use Rattle.promql_text.proofs.printed_len.magnitude_len.Goals as goal

pub returns-clause-value : goal.returns-clause-value
returns-clause-value c =
    length_places_of c.args.decimal.now _ _ _ (sym c.decimal.view_is) c.if-decimal-eq0.false c.decimal.invariant.short
    (c.digit_count-2.ensures.value ∙ ap digit_count (c.split_at_point-whole.ensures.0 ∙ ap (λ n. n / 10 ^ c.decimal.inside.places) c.get-2.ensures)) c.from-2.ensures

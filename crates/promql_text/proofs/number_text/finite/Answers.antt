use Rattle.std.proofs.Common.{◌∙◌, ap, sym}
use Rattle.std.specs.Prelude.{option_map}
use Rattle.std.specs.Option.{ok_or}
use Rattle.promql_text.specs.DecimalForm.{Numeral}
use Rattle.promql_text.specs.DecimalParts.{numeral_of}
use Rattle.promql_text.specs.declared.number.Number.TheVariants as number
use Rattle.promql_text.specs.declared.number.NumberFault.TheVariants as fault
use Rattle.promql_text.proofs.numbers.Finites.{finite_long, finite_short}
use Rattle.promql_text.proofs.numerals.Runs.{run_digits}
use Rattle.promql_text.proofs.number_text.finite.Goals as goal

pub returns-in_default : goal.returns-in_default
returns-in_default g c =
    let n : Numeral = numeral_of g.S.Source.left c.args.numeral in
    sym (finite_long c.args.is_negative n (run_digits (g.S.Source.left c.args.numeral.whole)) (run_digits (g.S.Source.left c.args.numeral.fraction)) c.in_default.ensures.value)

pub returns-in-Some-at_place : goal.returns-in-Some-at_place
returns-in-Some-at_place g c =
    let n : Numeral = numeral_of g.S.Source.left c.args.numeral in
    ap (λ p. ok_or (option_map number.Finite p) fault.OutOfRange) c.in-Some-at_place.ensures
    ∙ sym (finite_short c.args.is_negative n c.in-Some.read.digits c.in-Some.read.zeros (run_digits (g.S.Source.left c.args.numeral.whole)) (run_digits (g.S.Source.left c.args.numeral.fraction)) c.in-Some.ensures.value c.in-Some.read.short c.in-Some.read.ends)

pub returns-in-None : goal.returns-in-None
returns-in-None g c =
    let n : Numeral = numeral_of g.S.Source.left c.args.numeral in
    ap (λ p. ok_or (option_map number.Finite p) fault.OutOfRange) c.in-None.ensures
    ∙ sym (finite_short c.args.is_negative n c.in-Some.read.digits c.in-Some.read.zeros (run_digits (g.S.Source.left c.args.numeral.whole)) (run_digits (g.S.Source.left c.args.numeral.fraction)) c.in-Some.ensures.value c.in-Some.read.short c.in-Some.read.ends)

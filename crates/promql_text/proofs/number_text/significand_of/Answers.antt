use Rattle.std.proofs.Common.{◌≡◌, ℕ, ◌*◌, ◌^◌, subst, MatchOption}
use Rattle.promql_text.specs.DecimalForm.{Numeral}
use Rattle.promql_text.specs.DecimalParts.{numeral_of}
use Rattle.promql_text.specs.Significands.{IsLong}
use Rattle.promql_text.proofs.numbers.Finites.{nothing_yet, both_parts, long_whole}
use Rattle.promql_text.proofs.numerals.Runs.{run_digits}
use Rattle.promql_text.proofs.number_text.significand_of.Goals as goal

pub returns-in_err-whole-clause-value : goal.returns-in_err-whole-clause-value
returns-in_err-whole-clause-value g c =
    let n : Numeral = numeral_of g.S.Source.left c.args.numeral in
    rw c.from_residual.ensures
    (long_whole n (c.new.result.digits * 10 ^ c.new.result.zeros) (nothing_yet c.new.result.digits c.new.result.zeros c.new.ensures.0) (run_digits (g.S.Source.left c.args.numeral.fraction)) c.in_err-whole.ensures.value)

pub returns-clause-value : goal.returns-clause-value
returns-clause-value g c =
    let n : Numeral = numeral_of g.S.Source.left c.args.numeral in
    let P : ℕ → Type 0 = λ v. MatchOption c.read_digits-2.result (IsLong v) (λ s. s.digits * 10 ^ s.zeros ≡ v) in
    subst P
    (both_parts n (c.new.result.digits * 10 ^ c.new.result.zeros) (c.in_ok-whole.whole.digits * 10 ^ c.in_ok-whole.whole.zeros) (nothing_yet c.new.result.digits c.new.result.zeros c.new.ensures.0) c.in_ok-whole.ensures.value)
    c.read_digits-2.ensures.value

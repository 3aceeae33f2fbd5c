use Rattle.std.proofs.Common.{◌∙◌, ◌++◌, ◌^◌, ◌<◌, [], length, ap, arith, length-append}
use Rattle.std.specs.Str.Parse.{AllDigits}
use Rattle.promql_text.specs.Texts.{Text}
use Rattle.promql_text.specs.DecimalForm.{digit_run}
use Rattle.promql_text.specs.DecimalParts.{numeral_of}
use Rattle.promql_text.proofs.numerals.Runs.{run_digits}
use Rattle.promql_text.proofs.durations.PointAmong.{digits_append, second_none, second_some}
use Rattle.promql_text.proofs.seconds.nanoseconds.Goals as goal

pub returns-in_default : goal.returns-in_default
returns-in_default c =
    let n = c.args.numeral in
    second_none (numeral_of (λ s. s.now) n) (digits_append (digit_run n.whole.now) (digit_run n.fraction.now) (run_digits n.whole.now) (run_digits n.fraction.now)) c.in_default.ensures

pub returns : goal.returns
returns c =
    let n = c.args.numeral in
    let whole : Text = digit_run n.whole.now in
    let fraction : Text = digit_run n.fraction.now in
    let digits : AllDigits 10 (whole ++ fraction) = digits_append whole fraction (run_digits n.whole.now) (run_digits n.fraction.now) in
    let first = rw c.run.ensures.value at (c.read.ensures c.in-Some.to_point [] c.new-digits.ensures) in
    let read = rw c.run-2.ensures.value at (c.read-2.ensures c.in-Some.to_point whole first) in
    let short : length (whole ++ fraction) < 2 ^ 100 =
    omega (arith, length-append whole fraction, ap length c.run.ensures.value, ap length c.run-2.ensures.value, c.run.ensures.fits, c.run-2.ensures.fits)
    in
    c.round.ensures c.in-Some.to_point (whole ++ fraction) digits read
    ∙ second_some (numeral_of (λ s. s.now) n) c.in-Some.to_point short c.in-Some.ensures

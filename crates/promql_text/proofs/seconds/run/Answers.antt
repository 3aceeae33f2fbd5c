use Rattle.std.proofs.Common.{◌≡◌, ◌∙◌, take, sym, ap, subst}
use Rattle.std.specs.Str.Parse.{AllDigits}
use Rattle.promql_text.specs.DecimalForm.{digit_run}
use Rattle.promql_text.proofs.numerals.Runs.{run_digits, take_run}
use Rattle.promql_text.proofs.seconds.run.Goals as goal
use Rattle.promql_text.proofs.seconds.run.Goals.{After-run_len}

is_run : (c : After-run_len) → take c.run_len.result c.args.text.now ≡ digit_run c.args.text.now
is_run c = ap (λ n. take n c.args.text.now) c.run_len.ensures.value ∙ take_run c.args.text.now

pub returns-clause-value : goal.returns-clause-value
returns-clause-value c = is_run c

pub returns-clause-digits : goal.returns-clause-digits
returns-clause-digits c = subst (AllDigits 10) (sym (is_run c)) (run_digits c.args.text.now)

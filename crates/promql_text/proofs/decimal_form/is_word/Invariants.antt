use Rattle.std.proofs.Common.{◌≡◌, drop}
use Rattle.promql_text.specs.DecimalForm as spec
use Rattle.promql_text.proofs.decimal_form.is_word.Given as goal

abbrev pub invariant-loop-b : goal.invariant-loop-b
invariant-loop-b g l = spec.is_word (g.S.Source.left l.rest) (drop l.b-index l.word) ≡ spec.is_word (g.S.Source.left l.fn.text) l.word

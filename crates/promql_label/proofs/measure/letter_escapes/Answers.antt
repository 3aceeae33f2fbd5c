use Rattle.std.proofs.Common.{sym, ◌∙◌}
use Rattle.promql_label.proofs.pattern_weight.AbsentBytes.{no_escapes}
use Rattle.promql_label.proofs.measure.letter_escapes.Goals as goal

pub returns-then-not-contains-clause-count : goal.returns-then-not-contains-clause-count
returns-then-not-contains-clause-count c = sym (no_escapes c.args.value.now (sym c.contains.ensures.value ∙ c.if-not-contains.true))

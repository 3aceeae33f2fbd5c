use Rattle.std.proofs.Common.{sym, ◌∙◌}
use Rattle.promql_label.proofs.pattern_weight.AbsentBytes.{no_folding}
use Rattle.promql_label.proofs.measure.may_fold.Goals as goal

pub returns-then-not-contains : goal.returns-then-not-contains
returns-then-not-contains c = sym (no_folding c.args.value.now (sym c.contains.ensures.value ∙ c.if-not-contains.true))

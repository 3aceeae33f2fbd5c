use Rattle.std.proofs.Common.{ap, min, sym, ◌-◌, ◌^◌, ◌∙◌}
use Rattle.promql_label.proofs.pattern_weight.AbsentBytes.{no_repeats}
use Rattle.promql_label.proofs.measure.repeats.Goals as goal

pub returns-then-not-contains : goal.returns-then-not-contains
returns-then-not-contains c = sym (ap (λ n. min n (2 ^ 64 - 1)) (no_repeats c.args.value.now (sym c.contains.ensures.value ∙ c.if-not-contains.true)))

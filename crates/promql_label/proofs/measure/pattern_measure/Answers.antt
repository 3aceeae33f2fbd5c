use Rattle.std.proofs.Common.{◌∙◌, ◌*◌, ◌-◌, ◌^◌, ap, ap₂, min}
use Rattle.promql_label.specs.MeasureParts.{weight}
use Rattle.promql_label.specs.PatternMeasure as spec
use Rattle.promql_label.proofs.pattern_weight.PatternMeasures.{capped_factors}
use Rattle.promql_label.proofs.measure.pattern_measure.Goals as goal

pub returns : goal.returns
returns c =
    c.saturating_mul.ensures
    ∙ ap₂ (λ a b. min (a * b) (2 ^ 64 - 1)) c.weight.ensures c.repeats.ensures
    ∙ capped_factors (2 ^ 64 - 1) (weight c.as_bytes-bytes.result.now) (spec.repeats c.as_bytes-bytes.result.now)
    ∙ ap (λ v. min (spec.measure v) (2 ^ 64 - 1)) c.as_bytes-bytes.ensures.value

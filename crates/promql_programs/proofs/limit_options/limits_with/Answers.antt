use Rattle.std.proofs.Common.{◌∙◌, ap₂, sym}
use Rattle.promql_programs.specs.LimitOptions.{with_option}
use Rattle.promql_programs.proofs.OptionSteps.{one_option}
use Rattle.promql_programs.proofs.limit_options.limits_with.Goals as goal

pub loop-rest-preserved : goal.loop-rest-preserved
loop-rest-preserved c =
    let changes =
    ap₂ (λ name value. with_option c.loop-rest.changed name value) (sym c.as_str.ensures.value) (sym c.as_str-in-len2-up.ensures.value)
    ∙ sym c.with_option.ensures ∙ c.in_ok-changed.was in
    one_option c.loop-rest.changed c.in_ok-changed.changed c.loop-rest.rest.now c.name-item.result c.value-item.result c.in-len2-up.len_at_least c.name-item.is c.value-item.is changes
    ∙ c.loop-rest.invariant

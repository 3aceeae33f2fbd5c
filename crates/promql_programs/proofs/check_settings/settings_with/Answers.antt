use Rattle.std.proofs.Common.{◌∙◌, ap, sym}
use Rattle.std.specs.Prelude.{bytes_eq, codes}
use Rattle.promql_programs.specs.CheckSettings.{colors_when}
use Rattle.promql_programs.proofs.CheckOptions.{color_first, limits_first, none_first}
use Rattle.promql_programs.proofs.check_settings.settings_with.Goals as goal

pub returns-in_err-changed-2 : goal.returns-in_err-changed-2
returns-in_err-changed-2 c =
    let is = ap (λ name. bytes_eq name (codes "--color")) (sym c.as_str.ensures.value) ∙ sym c.eq.ensures ∙ c.if-eq.false in
    c.from_residual-in_err-changed-2.ensures
    ∙ none_first c.args.usual c.loop-rest.changed c.loop-rest.rest.now c.name-item.result c.in-len2-up.len_at_least c.name-item.is is (sym c.limits_with.ensures ∙ c.in_err-changed-2.was)
    ∙ c.loop-rest.invariant

pub loop-rest-preserved-in_ok-changed : goal.loop-rest-preserved-in_ok-changed
loop-rest-preserved-in_ok-changed c =
    let is = ap (λ name. bytes_eq name (codes "--color")) (sym c.as_str.ensures.value) ∙ sym c.eq.ensures ∙ c.if-eq.true in
    let asks = ap (colors_when c.args.usual) (sym c.as_str-then-eq.ensures.value) ∙ sym c.colors_when.ensures ∙ c.in_ok-changed.was in
    color_first c.args.usual c.loop-rest.changed c.loop-rest.rest.now c.name-item.result c.value-item.result c.in_ok-changed.field-0 c.in-len2-up.len_at_least c.name-item.is c.value-item.is is asks
    ∙ c.loop-rest.invariant

pub loop-rest-preserved : goal.loop-rest-preserved
loop-rest-preserved c =
    let is = ap (λ name. bytes_eq name (codes "--color")) (sym c.as_str.ensures.value) ∙ sym c.eq.ensures ∙ c.if-eq.false in
    limits_first c.args.usual c.loop-rest.changed c.loop-rest.rest.now c.name-item.result c.in_ok-changed-2.field-0 c.in-len2-up.len_at_least c.name-item.is is (sym c.limits_with.ensures ∙ c.in_ok-changed-2.was)
    ∙ c.loop-rest.invariant

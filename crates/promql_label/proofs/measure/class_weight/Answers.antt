use Rattle.std.proofs.Common.{rules, ◌≡◌, ◌*◌, ◌+◌, ◌-◌, ◌^◌, ◌∙◌, ap, ap₂, sym, cond, count_by, false, true, min, ℕ}
use Rattle.promql_label.specs.PatternMeasure as spec
use Rattle.promql_label.proofs.pattern_weight.PatternMeasures.{capped_product}
use Rattle.promql_label.proofs.measure.class_weight.Goals as goal

pub returns-then-may_fold : goal.returns-then-may_fold
returns-then-may_fold c =
    let v = c.args.value.now in
    let folds : spec.may_fold false v ≡ true = sym c.may_fold.ensures ∙ c.if-may_fold.true in
    let product : ℕ = (spec.letter_escapes 0 v + 1) * (count_by spec.is_set_sign v + 1) in
    let signs : c.count-signs.result ≡ count_by spec.is_set_sign v = search rules in
    c.saturating_mul-then-may_fold.ensures
    ∙ ap (λ k. min (k * 22) (2 ^ 64 - 1)) (c.saturating_mul.ensures ∙ ap₂ (λ e s. min ((e + 1) * (s + 1)) (2 ^ 64 - 1)) c.letter_escapes-escapes.ensures.count signs)
    ∙ capped_product (2 ^ 64 - 1) product 22
    ∙ sym (ap (λ f. min (cond f (product * 22) (22 * spec.letter_escapes 0 v)) (2 ^ 64 - 1)) folds)

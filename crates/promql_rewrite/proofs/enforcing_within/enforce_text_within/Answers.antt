use Rattle.std.proofs.Common.{◌≡◌, ◌∙◌, ◌||◌, ap, refl, subst, sym}
use Rattle.promql_ast.specs.View.{tree_of}
use Rattle.promql_label.specs.MatcherViews.{plain_matcher_of}
use Rattle.promql_rewrite.specs.EnforcedWithin.{IsPlaceFault}
use Rattle.promql_rewrite.specs.Enforcing.{enforced}
use Rattle.promql_rewrite.specs.declared.enforcing_within.EnforceWithinError.TheVariants.{Info, TooLong}
use Rattle.promql_rewrite.specs.Patterns.{has_pattern, is_regex}
use Rattle.promql_rewrite.proofs.enforcing_within.enforce_text_within.Goals as goal
use Rattle.promql_rewrite.proofs.enforcing_within.enforce_text_within.Goals.{then-is_regex, else-is_regex}

pub returns-clause-info : goal.returns-clause-info
returns-clause-info c = λ is.
    let m = plain_matcher_of c.in-Ok.matcher in
    let same : c.in-Err-enforce_within.error ≡ Info = cc in
    ((m, c.in-Ok.ensures.ok), subst (IsPlaceFault c.args.most m (tree_of c.args.expr)) same c.in-Err-enforce_within.ensures.err)

pub returns-clause-long : goal.returns-clause-long
returns-clause-long c = λ len is.
    let m = plain_matcher_of c.in-Ok.matcher in
    let t = tree_of c.args.expr in
    let same : c.in-Err-enforce_within.error ≡ TooLong len = cc in
    let fault = subst (IsPlaceFault c.args.most m t) same c.in-Err-enforce_within.ensures.err in
    (enforced m t, (m, c.in-Ok.ensures.ok, fault.0, refl), fault.1, fault.2)

pub returns-in-Ok-enforce_within-clause-pattern : goal.returns-in-Ok-enforce_within-clause-pattern
returns-in-Ok-enforce_within-clause-pattern c =
    let m = plain_matcher_of c.in-Ok.matcher in
    let t = tree_of c.args.expr in
    let either : c.if-is_regex.has_pattern ≡ is_regex m || has_pattern t =
    elim c.if-is_regex.branch [
      | then-is_regex w ↦ w.has_pattern-is ∙ w.if-is_regex.true ∙ sym (ap (λ b. b || has_pattern t) (sym c.is_regex.ensures ∙ w.if-is_regex.true))
      | else-is_regex w ↦ w.has_pattern-is ∙ w.has_pattern-has_pattern.ensures ∙ sym (ap (λ b. b || has_pattern t) (sym c.is_regex.ensures ∙ w.if-is_regex.false))
    ] in
    (m, c.in-Ok.ensures.ok, c.in-Ok.ensures.name, c.in-Ok-enforce_within.ensures.enforced, either)

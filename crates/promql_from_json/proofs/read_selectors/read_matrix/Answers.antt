use Rattle.std.proofs.Common.{◌∙◌, ap, codes, refl, Some}
use Rattle.serde_json.specs.View.{members_view}
use Rattle.promql_json.specs.JsonTokens.{moment_of_selector}
use Rattle.promql_from_json.proofs.ReadForms.{differ, err_within, matrix_form, moment_fine, same_members}
use Rattle.promql_from_json.specs.FormMisfits.{node_named}
use Rattle.promql_from_json.proofs.read_selectors.read_matrix.Goals as goal

pub returns-in_err-selector-clause-err : goal.returns-in_err-selector-clause-err
returns-in_err-selector-clause-err c =
    err_within _ c.from_residual.result c.in_err-selector.field-0.0 c.from_residual.ensures.1
    (λ other s range mode fine h. c.in_err-selector.ensures.err other s (codes "range") _ _ fine (differ (codes "range") (codes "or_matchers") refl)
    (ap members_view c.new-fields.ensures.all ∙ same_members _ _ (h ∙ matrix_form s range mode)))

pub returns-in_err-range-clause-err : goal.returns-in_err-range-clause-err
returns-in_err-range-clause-err c =
    err_within _ c.from_residual-in_err-range.result c.in_err-range.field-0.0 c.from_residual-in_err-range.ensures.1
    (λ other s range mode fine h. c.in_err-range.ensures.err other range mode (codes "startOrEnd") _ _ (differ (codes "startOrEnd") (codes "rangeMode") refl)
    (c.in_ok-selector.ensures.rest s (codes "range") _ _ (differ (codes "range") (codes "or_matchers") refl)
    (ap members_view c.new-fields.ensures.all ∙ same_members _ _ (h ∙ matrix_form s range mode))))

pub returns-in_err-at-clause-err : goal.returns-in_err-at-clause-err
returns-in_err-at-clause-err c =
    err_within _ c.from_residual-in_err-at.result c.in_err-at.field-0.0 c.from_residual-in_err-at.ensures.1
    (λ other s range mode fine h. c.in_err-at.ensures.err other (moment_of_selector s) (moment_fine s fine)
    (c.in_ok-range.ensures.rest range mode (codes "startOrEnd") _ _ (differ (codes "startOrEnd") (codes "rangeMode") refl)
    (c.in_ok-selector.ensures.rest s (codes "range") _ _ (differ (codes "range") (codes "or_matchers") refl)
    (ap members_view c.new-fields.ensures.all ∙ same_members _ _ (h ∙ matrix_form s range mode)))))

pub returns-in_err-selector-clause-place : goal.returns-in_err-selector-clause-place
returns-in_err-selector-clause-place c =
    err_within _ c.from_residual.result c.in_err-selector.field-0.0 c.from_residual.ensures.1
    (λ n is. c.in_err-selector.ensures.place (node_named (codes "matrixSelector") n) _ (refl, refl, refl, refl, refl, refl) (c.new-fields.ensures.left (node_named (codes "matrixSelector") n) (codes "matchers") refl))

pub returns-in_err-range-clause-place : goal.returns-in_err-range-clause-place
returns-in_err-range-clause-place c =
    err_within _ c.from_residual-in_err-range.result c.in_err-range.field-0.0 c.from_residual-in_err-range.ensures.1
    (λ n is. c.in_err-range.ensures.place n _ ((c.in_ok-selector.ensures.left (node_named (codes "matrixSelector") n) _ (refl, refl, refl, refl, refl, refl) (c.new-fields.ensures.left (node_named (codes "matrixSelector") n) (codes "matchers") refl)) (Some (codes "range")) refl))

pub returns-in_err-at-clause-place : goal.returns-in_err-at-clause-place
returns-in_err-at-clause-place c =
    err_within _ c.from_residual-in_err-at.result c.in_err-at.field-0.0 c.from_residual-in_err-at.ensures.1
    (λ n is. c.in_err-at.ensures.place (node_named (codes "matrixSelector") n) _ (refl, refl, refl, refl) (c.in_ok-range.ensures.left n _ ((c.in_ok-selector.ensures.left (node_named (codes "matrixSelector") n) _ (refl, refl, refl, refl, refl, refl) (c.new-fields.ensures.left (node_named (codes "matrixSelector") n) (codes "matchers") refl)) (Some (codes "range")) refl)) is)

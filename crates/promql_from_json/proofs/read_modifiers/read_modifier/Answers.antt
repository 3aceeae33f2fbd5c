use Rattle.promql_from_json.proofs.ErrorPlaces.{by_kind}
use Rattle.std.proofs.Common.{◌∙◌, ap, sym, None, refl, Some, codes}
use Rattle.serde_json.specs.View.{members_view}
use Rattle.promql_from_json.proofs.ReadForms.{err_within, no_modifier, rest_of}
use Rattle.promql_from_json.specs.declared.from_error.Expected.TheVariants.{Cardinality}
use Rattle.promql_from_json.specs.FormMisfits.{by_row, fill_values, labels, modifier, no_list, one}
use Rattle.promql_from_json.proofs.read_modifiers.read_modifier.Goals as goal

pub returns-in_err-card-clause-err : goal.returns-in_err-card-clause-err
returns-in_err-card-clause-err c =
    err_within _ c.from_residual.result c.in_err-card.field-0.0 c.from_residual.ensures.1
    (λ other. no_modifier _ (λ card clause r l right left h. c.in_err-card.ensures.err other _ _ _ _ (ap members_view c.new-fields.ensures.all ∙ h)))

pub returns-in_err-labels-clause-err : goal.returns-in_err-labels-clause-err
returns-in_err-labels-clause-err c =
    err_within _ c.from_residual-in_err-labels.result c.in_err-labels.field-0.0 c.from_residual-in_err-labels.ensures.1
    (λ other. no_modifier _ (λ card clause r l right left h. c.in_err-labels.ensures.err other _ _ _
    (ap (λ ms. rest_of (rest_of (rest_of ms))) (sym c.in_ok-card.ensures.ok ∙ ap members_view c.new-fields.ensures.all ∙ h))))

pub returns-in-Err-read_fills-clause-err : goal.returns-in-Err-read_fills-clause-err
returns-in-Err-read_fills-clause-err c = λ other.
    no_modifier _ (λ card clause r l right left h.
    let same = sym c.in_ok-card.ensures.ok ∙ ap members_view c.new-fields.ensures.all ∙ h in
    c.in-Err-read_fills.ensures.err (λ e. other (c.inside-in-Err-read_fills.ensures.memory e)) r l right left (cc same))

pub returns-in_err-card-clause-place : goal.returns-in_err-card-clause-place
returns-in_err-card-clause-place c =
    err_within _ c.from_residual.result c.in_err-card.field-0.0 c.from_residual.ensures.1
    (c.in_err-card.ensures.place modifier _ (c.new-fields.ensures.left modifier (codes "card") refl) refl)

pub returns-in_err-labels-clause-place : goal.returns-in_err-labels-clause-place
returns-in_err-labels-clause-place c =
    err_within _ c.from_residual-in_err-labels.result c.in_err-labels.field-0.0 c.from_residual-in_err-labels.ensures.1
    (c.in_err-labels.ensures.place modifier _ ((c.in_ok-card.ensures.left modifier _ (c.new-fields.ensures.left modifier (codes "card") refl) refl).3 (Some (codes "labels")) refl) refl)

pub returns-in_err-end-clause-place : goal.returns-in_err-end-clause-place
returns-in_err-end-clause-place c =
    err_within _ c.from_residual-in_err-end.result c.in_err-end.field-0.0 c.from_residual-in_err-end.ensures.1
    (c.in_err-end.ensures.place modifier _ ((c.in_ok-labels.ensures.left modifier _ ((c.in_ok-card.ensures.left modifier _ (c.new-fields.ensures.left modifier (codes "card") refl) refl).3 (Some (codes "labels")) refl) refl).2 None refl))

pub returns-in-Err-clause-place : goal.returns-in-Err-clause-place
returns-in-Err-clause-place c = c.inside.ensures.place modifier no_list _ _ (by_row modifier no_list _ (codes "include") refl) (c.in_ok-card.ensures.left modifier _ (c.new-fields.ensures.left modifier (codes "card") refl) refl).2 (c.in-Err.ensures.place c.in-Err.ensures.err)

pub returns-in-Err-read_fills-clause-place : goal.returns-in-Err-read_fills-clause-place
returns-in-Err-read_fills-clause-place c = c.inside-in-Err-read_fills.ensures.place modifier fill_values _ _ (by_row modifier fill_values _ (codes "fillValues") refl) (c.in_ok-card.ensures.left modifier _ (c.new-fields.ensures.left modifier (codes "card") refl) refl).1 c.in-Err-read_fills.ensures.place

pub returns-in-Err-read_cardinality-clause-place : goal.returns-in-Err-read_cardinality-clause-place
returns-in-Err-read_cardinality-clause-place c = c.inside-in-Err-read_cardinality.ensures.place modifier (one Cardinality) _ _ (by_row modifier (one Cardinality) _ (codes "card") refl) (c.in_ok-card.ensures.left modifier _ (c.new-fields.ensures.left modifier (codes "card") refl) refl).0 (by_kind (one Cardinality) _ _ _ c.in-Err-read_cardinality.ensures.err c.in-Err-read_cardinality.ensures.place)

pub returns-in_err-matching-clause-place : goal.returns-in_err-matching-clause-place
returns-in_err-matching-clause-place c =
    err_within _ c.from_residual-in_err-matching.result c.in_err-matching.field-0.0 c.from_residual-in_err-matching.ensures.1
    (c.in_err-matching.ensures.place _ (c.in_ok-labels.ensures.left modifier _ ((c.in_ok-card.ensures.left modifier _ (c.new-fields.ensures.left modifier (codes "card") refl) refl).3 (Some (codes "labels")) refl) refl).0 (c.in_ok-labels.ensures.left modifier _ ((c.in_ok-card.ensures.left modifier _ (c.new-fields.ensures.left modifier (codes "card") refl) refl).3 (Some (codes "labels")) refl) refl).1)

pub returns-in_err-matching-clause-err : goal.returns-in_err-matching-clause-err
returns-in_err-matching-clause-err c =
    err_within _ c.from_residual-in_err-matching.result c.in_err-matching.field-0.0 c.from_residual-in_err-matching.ensures.1
    (λ other. no_modifier _ (λ card clause r l right left h.
    let all = sym c.in_ok-card.ensures.ok ∙ ap members_view c.new-fields.ensures.all ∙ h in
    let two = sym c.in_ok-labels.ensures.ok ∙ ap (λ ms. rest_of (rest_of (rest_of ms))) all in
    c.in_err-matching.ensures.err other clause (cc two) (cc two)))

use Rattle.std.proofs.Common.{◌≡◌, ◌∙◌, ◌==◌, true≢false, ap, sym, map, arith, refl}
use Rattle.serde_json.specs.Data.{no_items}
use Rattle.serde_json.specs.View.{items_of, view}
use Rattle.promql_from_json.proofs.ReadForms.{none_in, err_within}
use Rattle.promql_from_json.specs.FormMisfits.{here, no_list}
use Rattle.promql_from_json.specs.declared.from_error.Expected.TheVariants.{EmptyList}
use Rattle.promql_from_json.proofs.read_modifiers.expect_no_items.Goals as goal

pub returns-else-is_empty-clause-err : goal.returns-else-is_empty-clause-err
returns-else-is_empty-clause-err c = λ h.
    let none : items_of (map view c.in_ok-read_list.field-0.now.items) ≡ no_items = cc (c.in_ok-read_list.ensures.ok, h) in
    let zero : c.in_ok-read_list.field-0.now.len ≡ 0 = omega (arith, none_in view _ none, c.in_ok-read_list.field-0.now.ok.0) in
    true≢false (sym (c.is_empty.ensures ∙ ap (λ k. k == 0) zero) ∙ c.if-is_empty.false)

pub returns-in_err-read_list-clause-place : goal.returns-in_err-read_list-clause-place
returns-in_err-read_list-clause-place c =
    err_within _ c.from_residual.result c.in_err-read_list.field-0.0 c.from_residual.ensures.1
    (λ other. c.in_err-read_list.ensures.place no_list refl)

pub returns-else-is_empty-clause-place : goal.returns-else-is_empty-clause-place
returns-else-is_empty-clause-place c = λ other. c.here.ensures no_list _ (here no_list _ EmptyList 1 refl other)

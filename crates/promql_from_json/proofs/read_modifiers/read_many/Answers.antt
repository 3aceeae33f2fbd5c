use Rattle.std.proofs.Common.{◌≡◌, ◌∙◌, ap, sym, refl, None, Some, option_map, codes}
use Rattle.serde_json.specs.Data.{object}
use Rattle.serde_json.specs.Find.{get}
use Rattle.serde_json.specs.View.{members_view, view}
use Rattle.promql_from_json.proofs.ErrorPlaces.{one_many, many_one}
use Rattle.promql_from_json.proofs.ReadForms.{err_within}
use Rattle.promql_from_json.proofs.read_modifiers.read_many.Goals as goal

pub returns-in_err-labels-in-Some-clause-place : goal.returns-in_err-labels-in-Some-clause-place
returns-in_err-labels-in-Some-clause-place c =
    let there : get (codes "one-to-many") (object (members_view c.args.members.now.entries)) ≡ Some (view c.in-Some.field-0.now) =
    sym c.member_named.ensures ∙ ap (option_map (λ v. view v.now)) c.in-Some.is in
    err_within _ c.from_residual.result c.in_err-labels-in-Some.field-0.0 c.from_residual.ensures.1
    (one_many _ _ _ there (c.in_err-labels-in-Some.ensures.place (refl, refl, refl, refl)))

pub returns-in_err-labels-in-None-clause-place : goal.returns-in_err-labels-in-None-clause-place
returns-in_err-labels-in-None-clause-place c =
    let absent : get (codes "one-to-many") (object (members_view c.args.members.now.entries)) ≡ None =
    sym c.member_named.ensures ∙ ap (option_map (λ v. view v.now)) c.in-None.is in
    err_within _ c.from_residual-in_err-labels-in-None.result c.in_err-labels-in-None.field-0.0 c.from_residual-in_err-labels-in-None.ensures.1
    (many_one _ _ absent (c.in_err-labels-in-None.ensures.place (refl, refl, refl, refl)))

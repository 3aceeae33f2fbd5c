use Rattle.std.proofs.Common.{◌∷◌, refl, ◌∙◌, sym, arith, ◌≡◌}
use Rattle.std.proofs.lemmas.Result.{IfErr-weaker}
use Rattle.promql_from_json.specs.FormMisfits.{list_of, matcher, here}
use Rattle.promql_from_json.proofs.ReadForms.{err_within}
use Rattle.promql_from_json.specs.declared.from_error.Expected.TheVariants.{FullList, List as ListThere}
use Rattle.promql_from_json.proofs.ErrorPlaces.{none_first}
use Rattle.serde_json.specs.Data.{item}
use Rattle.serde_json.specs.View.{items_view}
use Rattle.std.proofs.lemmas.Bool.Decides.{Decides-eqb}
use Rattle.promql_from_json.proofs.read_labels.read_groups.Goals as goal

pub returns-clause-err : goal.returns-clause-err
returns-clause-err c =
    IfErr-weaker c.read_group_list.result _ _
    (λ e none other g gs fine h. none other (g ∷ gs) fine (cc (c.deref.ensures.value, c.in_ok-list.ensures.ok, h)))
    c.read_group_list.ensures.err

pub returns-in_err-list-clause-place : goal.returns-in_err-list-clause-place
returns-in_err-list-clause-place c =
    err_within _ c.from_residual.result c.in_err-list.field-0.0 c.from_residual.ensures.1
    (c.in_err-list.ensures.place (list_of FullList (list_of ListThere matcher)) refl)

pub returns-then-is_empty-clause-place : goal.returns-then-is_empty-clause-place
returns-then-is_empty-clause-place c =
    let zero : c.in_ok-list.list.now.len ≡ 0 = (Decides-eqb c.in_ok-list.list.now.len 0).0 (sym c.is_empty.ensures ∙ c.if-is_empty.true) in
    c.here.ensures _ _ (here (list_of FullList (list_of ListThere matcher)) _ FullList 1 refl (λ first ds h.
    let same : items_view c.in_ok-list.list.now.items ≡ item first ds = cc (c.in_ok-list.ensures.ok, h) in
    none_first c.in_ok-list.list.now.items first ds (omega (arith, zero, c.in_ok-list.list.now.ok.0)) same))

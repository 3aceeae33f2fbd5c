use Rattle.std.proofs.Common.{ℕ, zero, suc, List, [], ◌∷◌, get_or, Some, ◌<◌, ◌≡◌, ◌∙◌, ap, sym, map, arith, refl, inl, inr, length}
use Rattle.serde_json.specs.Data.{string}
use Rattle.serde_json.specs.Find.{at}
use Rattle.promql_kind.specs.declared.value.ValueType.{ValueType}
use Rattle.serde_json.specs.View.{items_of, view}
use Rattle.promql_json.specs.JsonParts.{list}
use Rattle.promql_json.specs.FormNames.{type_json}
use Rattle.promql_from_json.proofs.ReadForms.{same_at, same_length, err_within}
use Rattle.promql_from_json.specs.FormMisfits.{list_of, one, differs, exactly}
use Rattle.promql_from_json.specs.declared.from_error.Expected.TheVariants.{FunctionPart, List as ListThere}
use Rattle.promql_from_json.proofs.MembersInOrder.{item_there}
use Rattle.promql_from_json.proofs.read_modifiers.expect_types.Goals as goal

types_at : (ts : List ValueType) (i : ℕ) (t : ValueType) → i < length ts → at i (list (map type_json ts)) ≡ Some (type_json (get_or ts i t))
types_at [] i t within = absurd (omega arith)
types_at (x ∷ ts) zero t within = refl
types_at (x ∷ ts) (suc i) t within = types_at ts i t (omega arith)

pub returns-then-len-types-clause-err : goal.returns-then-len-types-clause-err
returns-then-len-types-clause-err c = λ other h.
    let same : items_of (map view c.in_ok-list.list.now.items) ≡ items_of (map type_json c.args.types.now) = cc (c.in_ok-list.ensures.ok, h) in
    absurd (omega (arith, same_length view type_json _ _ same, c.len.ensures, c.if-len-types.true))

pub returns-in-Err-clause-err : goal.returns-in-Err-clause-err
returns-in-Err-clause-err c = λ other h.
    let same : items_of (map view c.in_ok-list.list.now.items) ≡ items_of (map type_json c.args.types.now) = cc (c.in_ok-list.ensures.ok, h) in
    c.in-Err.ensures.err
    (ap view c.index.ensures
    ∙ same_at view type_json _ _ c.loop-i.i c.index.result.now _ (omega (arith, c.len.ensures, c.if-len-types.false, c.loop-i-test.true)) same
    ∙ ap string (sym c.type_name.ensures))

pub returns-in_err-list-clause-place : goal.returns-in_err-list-clause-place
returns-in_err-list-clause-place c =
    err_within _ c.from_residual.result c.in_err-list.field-0.0 c.from_residual.ensures.1
    (λ other. inl (c.in_err-list.ensures.place (list_of ListThere (one FunctionPart)) refl))

pub returns-then-len-types-clause-place : goal.returns-then-len-types-clause-place
returns-then-len-types-clause-place c = λ other. inr (c.here.ensures _ _ (differs _ _ other))

pub returns-in-Err-clause-place : goal.returns-in-Err-clause-place
returns-in-Err-clause-place c = λ other.
    let within : c.loop-i.i < length c.in_ok-list.list.now.items = omega (arith, c.len.ensures, c.if-len-types.false, c.loop-i-test.true) in
    inr (c.inside_item.ensures.exact (view c.args.value.now) (view c.index.result.now) (list (map type_json c.args.types.now)) (string c.type_name.result.now)
    (types_at c.args.types.now c.loop-i.i _ c.loop-i-test.true ∙ ap (λ s. Some (string s)) (sym c.type_name.ensures))
    (rw c.in_ok-list.ensures.ok (item_there c.in_ok-list.list.now.items c.loop-i.i c.index.result.now within c.index.ensures))
    (c.in-Err.ensures.place (exactly (string c.type_name.result.now)) (differs _ _ c.in-Err.ensures.err)))

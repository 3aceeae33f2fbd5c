use Rattle.promql_from_json.proofs.ErrorPlaces.{by_kind}
use Rattle.std.proofs.Common.{◌∙◌, ap, sym, None, refl, Some, codes}
use Rattle.serde_json.specs.View.{members_view}
use Rattle.promql_kind.specs.Functions.{signature}
use Rattle.promql_from_json.proofs.ReadForms.{err_within, no_function, rest_of, same_members, value_of}
use Rattle.promql_from_json.specs.FormMisfits.{by_row, function, word}
use Rattle.promql_from_json.specs.declared.from_error.Expected.TheVariants.{FunctionName}
use Rattle.promql_from_json.proofs.read_modifiers.read_function.Goals as goal

pub returns-in_err-types-clause-err : goal.returns-in_err-types-clause-err
returns-in_err-types-clause-err c =
    err_within _ c.from_residual-in_err-types.result c.in_err-types.field-0.0 c.from_residual-in_err-types.ensures.1
    (λ other. no_function _ (λ name args variadic gives experimental named h. c.in_err-types.ensures.err other _ _ _ _
    (ap members_view c.new-fields.ensures.all ∙ same_members _ _ (sym c.in_ok-read_object.ensures.ok ∙ h))))

pub returns-in_err-return_type-clause-err : goal.returns-in_err-return_type-clause-err
returns-in_err-return_type-clause-err c =
    err_within _ c.from_residual-in_err-return_type.result c.in_err-return_type.field-0.0 c.from_residual-in_err-return_type.ensures.1
    (λ other. no_function _ (λ name args variadic gives experimental named h. c.in_err-return_type.ensures.err other _ _ _
    (ap (λ ms. rest_of (rest_of (rest_of ms)))
    (sym c.in_ok-types.ensures.ok ∙ ap members_view c.new-fields.ensures.all ∙ same_members _ _ (sym c.in_ok-read_object.ensures.ok ∙ h)))))

pub returns-in-Err-clause-err : goal.returns-in-Err-clause-err
returns-in-Err-clause-err c = λ other.
    no_function _ (λ name args variadic gives experimental named h.
    c.in-Err.ensures.err (λ e. other (c.inside.ensures.memory e)) (signature name args variadic gives experimental) named
    (ap (λ ms. value_of (rest_of (rest_of ms)))
    (sym c.in_ok-types.ensures.ok ∙ ap members_view c.new-fields.ensures.all ∙ same_members _ _ (sym c.in_ok-read_object.ensures.ok ∙ h))))

pub returns-in_err-read_object-clause-place : goal.returns-in_err-read_object-clause-place
returns-in_err-read_object-clause-place c =
    err_within _ c.from_residual.result c.in_err-read_object.field-0.0 c.from_residual.ensures.1
    (c.in_err-read_object.ensures.place function refl)

pub returns-in_err-types-clause-place : goal.returns-in_err-types-clause-place
returns-in_err-types-clause-place c =
    rw c.in_ok-read_object.ensures.ok (err_within _ c.from_residual-in_err-types.result c.in_err-types.field-0.0 c.from_residual-in_err-types.ensures.1
    (c.in_err-types.ensures.place function _ (c.new-fields.ensures.left function (codes "argTypes") refl) refl))

pub returns-in_err-return_type-clause-place : goal.returns-in_err-return_type-clause-place
returns-in_err-return_type-clause-place c =
    rw c.in_ok-read_object.ensures.ok (err_within _ c.from_residual-in_err-return_type.result c.in_err-return_type.field-0.0 c.from_residual-in_err-return_type.ensures.1
    (c.in_err-return_type.ensures.place function _ ((c.in_ok-types.ensures.left function _ (c.new-fields.ensures.left function (codes "argTypes") refl) refl).3 (Some (codes "returnType")) refl) refl))

pub returns-in_err-end-clause-place : goal.returns-in_err-end-clause-place
returns-in_err-end-clause-place c =
    rw c.in_ok-read_object.ensures.ok (err_within _ c.from_residual-in_err-end.result c.in_err-end.field-0.0 c.from_residual-in_err-end.ensures.1
    (c.in_err-end.ensures.place function _ ((c.in_ok-return_type.ensures.left function _ ((c.in_ok-types.ensures.left function _ (c.new-fields.ensures.left function (codes "argTypes") refl) refl).3 (Some (codes "returnType")) refl) refl).2 None refl)))

pub returns-in-Err-clause-place : goal.returns-in-Err-clause-place
returns-in-Err-clause-place c =
    c.inside.ensures.place function (word FunctionName) _ _ (by_row function (word FunctionName) _ (codes "name") refl) (rw c.in_ok-read_object.ensures.ok (c.in_ok-types.ensures.left function _ (c.new-fields.ensures.left function (codes "argTypes") refl) refl).2) (by_kind (word FunctionName) _ _ _ c.in-Err.ensures.err c.in-Err.ensures.place)

pub returns-in_err-expect_function-clause-place : goal.returns-in_err-expect_function-clause-place
returns-in_err-expect_function-clause-place c =
    err_within _ c.from_residual-in_err-expect_function.result c.in_err-expect_function.field-0.0 c.from_residual-in_err-expect_function.ensures.1
    (rw c.in_ok-read_object.ensures.ok (c.in_err-expect_function.ensures.place _ c.in-Ok.ensures.row ((c.in_ok-types.ensures.left function _ (c.new-fields.ensures.left function (codes "argTypes") refl) refl).2 ∙ ap Some c.in-Ok.ensures.ok) (c.in_ok-types.ensures.left function _ (c.new-fields.ensures.left function (codes "argTypes") refl) refl).0 (c.in_ok-types.ensures.left function _ (c.new-fields.ensures.left function (codes "argTypes") refl) refl).1 (c.in_ok-return_type.ensures.left function _ ((c.in_ok-types.ensures.left function _ (c.new-fields.ensures.left function (codes "argTypes") refl) refl).3 (Some (codes "returnType")) refl) refl).0 (c.in_ok-return_type.ensures.left function _ ((c.in_ok-types.ensures.left function _ (c.new-fields.ensures.left function (codes "argTypes") refl) refl).3 (Some (codes "returnType")) refl) refl).1))

use Rattle.promql_from_json.proofs.ReadForms.{err_within}
use Rattle.std.proofs.Common.{None, refl, codes}
use Rattle.promql_from_json.specs.FormMisfits.{by_row, fill_values, or_null, word}
use Rattle.promql_from_json.specs.declared.from_error.Expected.TheVariants.{Number}
use Rattle.promql_from_json.proofs.read_modifiers.read_fills.Goals as goal

pub returns-in_err-read_object-clause-place : goal.returns-in_err-read_object-clause-place
returns-in_err-read_object-clause-place c =
    err_within _ c.from_residual.result c.in_err-read_object.field-0.0 c.from_residual.ensures.1
    (c.in_err-read_object.ensures.place fill_values refl)

pub returns-in_err-lhs-clause-place : goal.returns-in_err-lhs-clause-place
returns-in_err-lhs-clause-place c =
    rw c.in_ok-read_object.ensures.ok (err_within _ c.from_residual-in_err-lhs.result c.in_err-lhs.field-0.0 c.from_residual-in_err-lhs.ensures.1
    (c.in_err-lhs.ensures.place fill_values _ (c.new-fields.ensures.left fill_values (codes "lhs") refl) refl))

pub returns-in_err-end-clause-place : goal.returns-in_err-end-clause-place
returns-in_err-end-clause-place c =
    rw c.in_ok-read_object.ensures.ok (err_within _ c.from_residual-in_err-end.result c.in_err-end.field-0.0 c.from_residual-in_err-end.ensures.1
    (c.in_err-end.ensures.place fill_values _ ((c.in_ok-lhs.ensures.left fill_values _ (c.new-fields.ensures.left fill_values (codes "lhs") refl) refl).2 None refl)))

pub returns-in-Err-clause-place : goal.returns-in-Err-clause-place
returns-in-Err-clause-place c =
    c.inside.ensures.place fill_values (or_null (word Number)) _ _ (by_row fill_values (or_null (word Number)) _ (codes "lhs") refl) (rw c.in_ok-read_object.ensures.ok (c.in_ok-lhs.ensures.left fill_values _ (c.new-fields.ensures.left fill_values (codes "lhs") refl) refl).0) c.in-Err.ensures.place

pub returns-in-Err-read_optional_number-clause-place : goal.returns-in-Err-read_optional_number-clause-place
returns-in-Err-read_optional_number-clause-place c =
    c.inside-in-Err-read_optional_number.ensures.place fill_values (or_null (word Number)) _ _ (by_row fill_values (or_null (word Number)) _ (codes "rhs") refl) (rw c.in_ok-read_object.ensures.ok (c.in_ok-lhs.ensures.left fill_values _ (c.new-fields.ensures.left fill_values (codes "lhs") refl) refl).1) c.in-Err-read_optional_number.ensures.place

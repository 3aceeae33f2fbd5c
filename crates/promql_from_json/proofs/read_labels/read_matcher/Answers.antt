use Rattle.promql_from_json.proofs.ReadForms.{err_within}
use Rattle.std.proofs.Common.{None, refl, ◌∙◌, ap, Some, codes}
use Rattle.promql_from_json.specs.FormMisfits.{by_row, matcher, one}
use Rattle.promql_from_json.specs.declared.from_error.Expected.TheVariants.{Text, MatchOp}
use Rattle.std.proofs.lemmas.Result.{IfErr-weaker}
use Rattle.promql_from_json.proofs.read_labels.read_matcher.Goals as goal

pub returns-in_err-read_object-clause-place : goal.returns-in_err-read_object-clause-place
returns-in_err-read_object-clause-place c =
    err_within _ c.from_residual.result c.in_err-read_object.field-0.0 c.from_residual.ensures.1
    (c.in_err-read_object.ensures.place matcher refl)

pub returns-in_err-name-clause-place : goal.returns-in_err-name-clause-place
returns-in_err-name-clause-place c =
    rw c.in_ok-read_object.ensures.ok (err_within _ c.from_residual-in_err-name.result c.in_err-name.field-0.0 c.from_residual-in_err-name.ensures.1
    (c.in_err-name.ensures.place matcher _ (c.new-fields.ensures.left matcher (codes "name") refl) refl))

pub returns-in_err-end-clause-place : goal.returns-in_err-end-clause-place
returns-in_err-end-clause-place c =
    rw c.in_ok-read_object.ensures.ok (err_within _ c.from_residual-in_err-end.result c.in_err-end.field-0.0 c.from_residual-in_err-end.ensures.1
    (c.in_err-end.ensures.place matcher _ ((c.in_ok-name.ensures.left matcher _ (c.new-fields.ensures.left matcher (codes "name") refl) refl).3 None refl)))

pub returns-in-Err-clause-place : goal.returns-in-Err-clause-place
returns-in-Err-clause-place c =
    c.inside.ensures.place matcher (one Text) _ _ (by_row matcher (one Text) _ (codes "name") refl)
    (rw c.in_ok-read_object.ensures.ok (c.in_ok-name.ensures.left matcher _ (c.new-fields.ensures.left matcher (codes "name") refl) refl).0) (c.in-Err.ensures.place (one Text) refl)

pub returns-in-Err-read_match_op-clause-place : goal.returns-in-Err-read_match_op-clause-place
returns-in-Err-read_match_op-clause-place c =
    c.inside-in-Err-read_match_op.ensures.place matcher (one MatchOp) _ _ (by_row matcher (one MatchOp) _ (codes "type") refl)
    (rw c.in_ok-read_object.ensures.ok (c.in_ok-name.ensures.left matcher _ (c.new-fields.ensures.left matcher (codes "name") refl) refl).1) (c.in-Err-read_match_op.ensures.place c.in-Err-read_match_op.ensures.err)

pub returns-in-Err-read_text-clause-place : goal.returns-in-Err-read_text-clause-place
returns-in-Err-read_text-clause-place c =
    c.inside-in-Err-read_text.ensures.place matcher (one Text) _ _ (by_row matcher (one Text) _ (codes "value") refl)
    (rw c.in_ok-read_object.ensures.ok (c.in_ok-name.ensures.left matcher _ (c.new-fields.ensures.left matcher (codes "name") refl) refl).2) (c.in-Err-read_text.ensures.place (one Text) refl)

pub returns-clause-place : goal.returns-clause-place
returns-clause-place c =
    rw c.in_ok-read_object.ensures.ok (IfErr-weaker c.new_matcher.result _ _
    (λ e place. place _ ((c.in_ok-name.ensures.left matcher _ (c.new-fields.ensures.left matcher (codes "name") refl) refl).1 ∙ ap Some c.in-Ok-read_match_op.ensures.ok) ((c.in_ok-name.ensures.left matcher _ (c.new-fields.ensures.left matcher (codes "name") refl) refl).2 ∙ ap Some c.in-Ok-read_text.ensures.ok)) c.new_matcher.ensures.place)

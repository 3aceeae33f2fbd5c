use Rattle.std.proofs.Common.{Some, ap, ◌∙◌}
use Rattle.std.proofs.lemmas.Result.{IfOk-weaker}
use Rattle.serde_json.specs.View.{view}
use Rattle.serde_json.specs.Written.{compact_text}
use Rattle.promql_query.specs.Batch.{error_value}
use Rattle.promql_query.proofs.LineAnswers.{rejection_is_finite}
use Rattle.promql_query.proofs.rejected_query.RejectedQuery.text.Goals as goal

pub returns : goal.returns
returns c =
    let query = c.args.self.now in
    let message = c.args.message.now in
    IfOk-weaker c.to_string-text.result _ _
    (λ s text.
    text (rejection_is_finite (view c.in_ok-object.object) query c.number.result message c.in_ok-object.ensures)
    ∙ ap compact_text c.in_ok-object.ensures
    ∙ ap (λ code. compact_text (error_value code message (Some query))) c.number.ensures)
    c.to_string-text.ensures.text

use Rattle.std.proofs.Common.{ap, ◌∙◌}
use Rattle.std.proofs.lemmas.Result.{IfOk-weaker}
use Rattle.serde_json.specs.View.{view}
use Rattle.serde_json.specs.Written.{compact_text}
use Rattle.promql_query.proofs.LineAnswers.{error_is_finite}
use Rattle.promql_query.proofs.line.error_text.Goals as goal

pub returns : goal.returns
returns c =
    IfOk-weaker c.to_string-text.result _ _
    (λ s text. (
      c.as_str.result.now,
      text (error_is_finite (view c.in_ok-object.object) c.args.error.now c.as_str.result.now c.in_ok-object.ensures)
          ∙ ap compact_text c.in_ok-object.ensures,
    ))
    c.to_string-text.ensures.text

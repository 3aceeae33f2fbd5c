use Rattle.std.proofs.Common.{◌++◌, ap, sym, ◌∙◌, codes}
use Rattle.std.proofs.lemmas.Result.{IfOk-weaker}
use Rattle.promql_query.specs.Batch.{value_text}
use Rattle.promql_query.specs.declared.mode.Mode.TheVariants.{Plain}
use Rattle.promql_query.proofs.answer_text.shown_answer.Goals as goal

pub returns-in-Pretty : goal.returns-in-Pretty
returns-in-Pretty c =
    IfOk-weaker c.answer_of_text.result _ _ (λ s is. is ∙ ap (λ f. codes "{\"ok\":" ++ (value_text (Plain f) c.args.shown.now ++ codes "}")) (sym c.in-Pretty.is)) c.answer_of_text.ensures

pub returns-in-Line : goal.returns-in-Line
returns-in-Line c =
    IfOk-weaker c.answer_of_text-in-Line.result _ _ (λ s is. is ∙ ap (λ f. codes "{\"ok\":" ++ (value_text (Plain f) c.args.shown.now ++ codes "}")) (sym c.in-Line.is)) c.answer_of_text-in-Line.ensures

pub returns-in-Json : goal.returns-in-Json
returns-in-Json c =
    IfOk-weaker c.answer_of_json.result _ _ (λ s is. is ∙ ap (λ f. codes "{\"ok\":" ++ (value_text (Plain f) c.args.shown.now ++ codes "}")) (sym c.in-Json.is)) c.answer_of_json.ensures

use Rattle.std.proofs.Common.{[], Some, refl, string_bytes, subst, sym}
use Rattle.std.proofs.lemmas.Result.{IfOk-weaker}
use Rattle.promql_query.specs.Batch.{IsOkText}
use Rattle.promql_query.specs.declared.mode.Mode.TheVariants.{Plain}
use Rattle.promql_query.specs.declared.mode.Wanted.TheVariants.{Print}
use Rattle.promql_query.proofs.answer_text.enforced_answer.Goals as goal

pub returns-in-Pretty : goal.returns-in-Pretty
returns-in-Pretty c = λ matcher.
    IfOk-weaker c.warned_answer.result _ _ (λ s has. subst (λ f. IsOkText c.args.limits.now (Some matcher) (Print (Plain f)) c.args.shown.now (string_bytes s)) (sym c.in-Pretty.is) has) c.warned_answer.ensures

pub returns-in-Line : goal.returns-in-Line
returns-in-Line c = λ matcher.
    IfOk-weaker c.warned_answer-in-Line.result _ _ (λ s has. subst (λ f. IsOkText c.args.limits.now (Some matcher) (Print (Plain f)) c.args.shown.now (string_bytes s)) (sym c.in-Line.is) has) c.warned_answer-in-Line.ensures

pub returns-in-Json : goal.returns-in-Json
returns-in-Json c = λ matcher.
    IfOk-weaker c.answer_of_json.result _ _ (λ s is. subst (λ f. IsOkText c.args.limits.now (Some matcher) (Print (Plain f)) c.args.shown.now (string_bytes s)) (sym c.in-Json.is) ([], refl, is)) c.answer_of_json.ensures

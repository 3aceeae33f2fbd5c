use Rattle.std.proofs.Common.{option_map, string_bytes, subst, sym}
use Rattle.std.proofs.lemmas.Result.{IfOk-weaker}
use Rattle.promql_query.specs.Batch.{IsOkText}
use Rattle.promql_query.specs.declared.mode.Mode.TheVariants.{Plain}
use Rattle.promql_query.specs.declared.mode.Wanted.TheVariants.{Print}
use Rattle.promql_query.proofs.WarnedAnswers.{unwarned}
use Rattle.promql_query.proofs.answer_text.ok_answer.Goals as goal

pub returns-in-None : goal.returns-in-None
returns-in-None c =
    let limits = c.args.limits.now in let shown = c.args.shown.now in
    IfOk-weaker c.shown_answer.result _ _
    (λ s is. subst (λ m. IsOkText limits (option_map (λ s. s.now) m) (Print (Plain c.args.format)) shown (string_bytes s)) (sym c.in-None.is) (unwarned limits c.args.format shown (string_bytes s) is))
    c.shown_answer.ensures

pub returns-in-Some : goal.returns-in-Some
returns-in-Some c =
    let limits = c.args.limits.now in let shown = c.args.shown.now in
    IfOk-weaker c.enforced_answer.result _ _
    (λ s has. subst (λ m. IsOkText limits (option_map (λ s. s.now) m) (Print (Plain c.args.format)) shown (string_bytes s)) (sym c.in-Some.is) has)
    (c.enforced_answer.ensures c.in-Some.field-0.now)

use Rattle.std.proofs.Common.{◌≡◌, ◌++◌, [], Some, codes, refl, subst, sym, ◌∙◌}
use Rattle.std.specs.Prelude.{MatchOption}
use Rattle.std.proofs.lemmas.Result.{IfOk-weaker}
use Rattle.serde_json.specs.Written.{compact_text}
use Rattle.promql_text.specs.Texts.{Text}
use Rattle.promql_target.specs.declared.refusal.Refusal.{Refusal}
use Rattle.promql_query.specs.Batch.{error_value, refused_query}
use Rattle.promql_query.proofs.answer_text.warned_answer.Goals as goal

pub returns-in-Some : goal.returns-in-Some
returns-in-Some c =
    let target = c.args.target in let query = c.args.query.now in
    let with_error : Text → Refusal → Text
    = λ message f. codes ",\"warning\":" ++ compact_text (error_value 24 message (Some (refused_query target query f))) in
    IfOk-weaker c.refused_answer.result _ _
    (λ s has. (
      with_error has.0 c.in-Some.refusal,
      subst (λ o. MatchOption o (with_error has.0 c.in-Some.refusal ≡ []) (λ f. (message : Text) × (with_error has.0 c.in-Some.refusal ≡ with_error message f)))
          (sym c.in-Some.is ∙ c.first_refusal.ensures) (has.0, refl),
      has.1,
    ))
    c.refused_answer.ensures

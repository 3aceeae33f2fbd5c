use Rattle.std.proofs.Common.{◌≡◌, ◌++◌, Some, ap, codes, ◌∙◌}
use Rattle.std.proofs.lemmas.Result.{IfOk-weaker}
use Rattle.std.proofs.lemmas.List.{append_assoc}
use Rattle.serde_json.specs.Data.{string}
use Rattle.serde_json.specs.Written.{compact_text}
use Rattle.promql_query.specs.Batch.{error_value, refused_query}
use Rattle.promql_query.proofs.answer_text.refused_answer.Goals as goal

pub returns : goal.returns
returns c =
    let query = c.args.query.now in let told = c.in_ok-member.ensures in
    let warning = codes ",\"warning\":" ++ compact_text (error_value 24 told.0 (Some (refused_query c.args.target query c.args.refusal))) in
    let members : c.as_str-2.result.now ≡ compact_text (string query) ++ warning
    = rw (c.as_str-2.ensures.value, c.in_ok-push_str.ensures.bytes, c.in_ok-value.ensures, c.as_str.ensures.value, told.1) in
    IfOk-weaker c.answer_of_json.result _ _
    (λ s is. (told.0, is ∙ ap (λ v. codes "{\"ok\":" ++ (v ++ codes "}")) members ∙ ap (λ v. codes "{\"ok\":" ++ v) (append_assoc (compact_text (string query)) warning (codes "}"))))
    c.answer_of_json.ensures

use Rattle.std.proofs.Common.{◌≡◌, Some, subst, sym, codes, string_bytes, arith, ◌∙◌}
use Rattle.std.specs.Prelude.{IfOk}
use Rattle.std.proofs.lemmas.Result.{IfOk-weaker}
use Rattle.serde_json.specs.Find.{get}
use Rattle.serde_json.specs.View.{view}
use Rattle.promql_query.specs.Batch.{HasId}
use Rattle.promql_query.specs.BatchSteps.{IsJsonOf}
use Rattle.promql_query.proofs.RequestIds.{id_depth}
use Rattle.promql_query.proofs.request_id.answer_with_id.Goals as goal

pub returns-in_ok-id-in-Some : goal.returns-in_ok-id-in-Some
returns-in_ok-id-in-Some c = λ members is.
    let d = view c.in-Some.id.now in
    let found : get (codes "id") (view c.args.asked.now) ≡ Some d = sym c.in-Some.ensures in
    let low = id_depth (codes "id") (view c.args.asked.now) d found in
    let text : IsJsonOf d c.as_str.result.now = subst (IsJsonOf d) (sym c.as_str.ensures.value) (c.in_ok-id-in-Some.ensures.reads_back (omega (arith, low, c.requires)), c.in_ok-id-in-Some.ensures.compact) in
    subst (λ o. IfOk c.insert_id.result (λ s. HasId o members (string_bytes s))) (sym found)
    (IfOk-weaker c.insert_id.result _ _ (λ s made. (c.as_str.result.now, text.0, text.1, made)) (c.insert_id.ensures members (c.as_str-in-Some.ensures.value ∙ is)))

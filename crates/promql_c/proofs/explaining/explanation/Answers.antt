use Rattle.std.proofs.Common.{inr, refl, string_bytes, subst, sym}
use Rattle.std.proofs.lemmas.Result.{IfOk-weaker}
use Rattle.promql_query.specs.Rejecting.{IsMessage, IsRejection}
use Rattle.promql_c.specs.Calls.{Explains}
use Rattle.promql_c.proofs.explaining.explanation.Goals as goal

pub returns-then-as_json : goal.returns-then-as_json
returns-then-as_json c = λ limits rejects.
    let query = c.args.query.now in
    let told = c.in_ok-rejected.rejected in
    let message = c.as_str.result.now in
    let made = c.in_ok-message.ensures query c.in_ok-rejected.ensures.told in
    let is_message = subst (IsMessage query told.rejection) (sym c.as_str.ensures.value) made in
    let rejected = subst (IsRejection limits query) (sym c.in_ok-rejected.ensures.rejection) rejects in
    IfOk-weaker c.text.result _ _
    (λ s is. subst (λ as_json. Explains limits as_json query (string_bytes s)) (sym c.if-as_json.true)
    (inr (told, rejected, c.in_ok-rejected.ensures.told, (message, is_message, is))))
    c.text.ensures

pub returns : goal.returns
returns c = λ limits rejects.
    let query = c.args.query.now in
    let told = c.in_ok-rejected.rejected in
    let message = string_bytes c.in_ok-message.message in
    let rejected = subst (IsRejection limits query) (sym c.in_ok-rejected.ensures.rejection) rejects in
    subst (λ as_json. Explains limits as_json query message) (sym c.if-as_json.false)
    (inr (told, rejected, c.in_ok-rejected.ensures.told, (message, c.in_ok-message.ensures query c.in_ok-rejected.ensures.told, refl)))

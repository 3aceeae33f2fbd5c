use Rattle.std.proofs.Common.{◌≡◌, ◌∷◌, ◌∙◌, ap, sym}
use Rattle.serde_json.specs.Data.{member}
use Rattle.serde_json.specs.View.{members_view, view}
use Rattle.promql_from_json.proofs.MembersInOrder.{next_left, same_key}
use Rattle.promql_from_json.proofs.fields.Fields.next_if.Goals as goal

pub returns-in-Some-clause-left : goal.returns-in-Some-clause-left
returns-in-Some-clause-left c = λ f d left.
    let is : c.as_str.result.now ≡ c.args.name.now = same_key _ _ (sym c.eq.ensures ∙ c.if-eq.true) in
    let same : c.args.self.now.rest ≡ (c.in-Some.key.now, c.in-Some.value.now) ∷ c.next.new.self = cc (c.in_ok-ahead.ensures.cases, c.in-Some.ensures.steps) in
    next_left f d _ c.args.name.now (view c.in-Some.value.now) _
    (ap members_view same ∙ ap (λ k. member k (view c.in-Some.value.now) (members_view c.next.new.self)) (sym c.as_str.ensures.value ∙ is))
    left

use Rattle.std.proofs.Common.{Some, ◌≡◌, ◌∙◌, ap, sym}
use Rattle.serde_json.specs.Data.{member}
use Rattle.serde_json.specs.View.{members_view, view}
use Rattle.promql_from_json.proofs.MembersInOrder.{below_key, missing_at_end, missing_before, next_left, same_key, unknown_left}
use Rattle.promql_from_json.proofs.fields.Fields.next.Goals as goal

pub returns-then-eq-clause-left : goal.returns-then-eq-clause-left
returns-then-eq-clause-left c = λ f d left.
    let is : c.as_str-key.result.now ≡ c.args.name.now = same_key _ _ (sym c.eq.ensures ∙ c.if-eq.true) in
    next_left f d _ c.args.name.now (view c.in-Some.value.now) _
    (ap members_view c.in-Some.ensures.steps ∙ ap (λ k. member k (view c.in-Some.value.now) (members_view c.next.new.self)) (sym c.as_str-key.ensures.value ∙ is))
    left

pub returns-then-lt-clause-place : goal.returns-then-lt-clause-place
returns-then-lt-clause-place c = λ f d left wanted.
    c.at.ensures f d (unknown_left f d (Some c.args.name.now) _ c.as_str-key.result.now (view c.in-Some.value.now) _
    (ap members_view c.in-Some.ensures.steps ∙ ap (λ k. member k (view c.in-Some.value.now) (members_view c.next.new.self)) (sym c.as_str-key.ensures.value))
    left (sym c.lt.ensures ∙ c.if-lt.true))

pub returns-else-lt-clause-place : goal.returns-else-lt-clause-place
returns-else-lt-clause-place c = λ f d left wanted.
    c.at-else-lt.ensures f d (missing_before f d _ c.args.name.now c.as_str-key.result.now (view c.in-Some.value.now) _
    (ap members_view c.in-Some.ensures.steps ∙ ap (λ k. member k (view c.in-Some.value.now) (members_view c.next.new.self)) (sym c.as_str-key.ensures.value))
    (below_key c.as_str-key.result.now c.args.name.now (sym c.eq.ensures ∙ c.if-eq.false) (sym c.lt.ensures ∙ c.if-lt.false))
    left wanted)

pub returns-in-None-clause-place : goal.returns-in-None-clause-place
returns-in-None-clause-place c = λ f d left wanted.
    let steps = rw c.in-None.is at c.next.ensures.steps in
    c.at-in-None.ensures f d (missing_at_end f d _ c.args.name.now (ap members_view steps.0) left wanted)

use Rattle.std.proofs.Common.{None, ◌∙◌, ap, refl, sym}
use Rattle.serde_json.specs.Data.{member}
use Rattle.serde_json.specs.View.{members_view, view}
use Rattle.promql_from_json.proofs.MembersInOrder.{unknown_left}
use Rattle.promql_from_json.proofs.fields.Fields.end.Goals as goal

pub returns-in-Some-clause-place : goal.returns-in-Some-clause-place
returns-in-Some-clause-place c = λ f d left.
    c.at.ensures f d (unknown_left f d None _ c.as_str.result.now (view c.in-Some.field-0-1.now) _
    (ap members_view c.in-Some.ensures.steps ∙ ap (λ k. member k (view c.in-Some.field-0-1.now) (members_view c.next.new.self)) (sym c.as_str.ensures.value))
    left refl)

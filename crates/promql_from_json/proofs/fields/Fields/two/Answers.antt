use Rattle.std.proofs.Common.{Some}
use Rattle.promql_from_json.proofs.MembersInOrder.{order_of_two}
use Rattle.promql_from_json.proofs.ReadForms.{err_within}
use Rattle.promql_from_json.proofs.fields.Fields.two.Goals as goal

pub returns-in_err-one-clause-place : goal.returns-in_err-one-clause-place
returns-in_err-one-clause-place c =
    err_within _ c.from_residual.result c.in_err-one.field-0.0 c.from_residual.ensures.1
    (λ f d left order. c.in_err-one.ensures.place f d left (order_of_two f _ _ order).0)

pub returns-in_err-two-clause-place : goal.returns-in_err-two-clause-place
returns-in_err-two-clause-place c =
    err_within _ c.from_residual-in_err-two.result c.in_err-two.field-0.0 c.from_residual-in_err-two.ensures.1
    (λ f d left order.
    let both = order_of_two f _ _ order in
    c.in_err-two.ensures.place f d ((c.in_ok-one.ensures.left f d left).1 (Some c.args.second.now) both.1) both.2)

pub returns-clause-left : goal.returns-clause-left
returns-clause-left c = λ f d left order.
    let one = c.in_ok-one.ensures.left f d left in
    let two = c.in_ok-two.ensures.left f d (one.1 (Some c.args.second.now) (order_of_two f _ _ order).1) in
    (one.0, two.0, two.1)

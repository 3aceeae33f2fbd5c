use Rattle.std.proofs.Common.{Some}
use Rattle.promql_from_json.proofs.MembersInOrder.{order_of_three}
use Rattle.promql_from_json.proofs.ReadForms.{err_within}
use Rattle.promql_from_json.proofs.fields.Fields.three.Goals as goal

pub returns-in_err-one-clause-place : goal.returns-in_err-one-clause-place
returns-in_err-one-clause-place c =
    err_within _ c.from_residual.result c.in_err-one.field-0.0 c.from_residual.ensures.1
    (λ f d left order. c.in_err-one.ensures.place f d left (order_of_three f _ _ _ order).0)

pub returns-in_err-three-clause-place : goal.returns-in_err-three-clause-place
returns-in_err-three-clause-place c =
    err_within _ c.from_residual-in_err-three.result c.in_err-three.field-0.0 c.from_residual-in_err-three.ensures.1
    (λ f d left order.
    let all = order_of_three f _ _ _ order in
    c.in_err-three.ensures.place f d ((c.in_ok-one.ensures.left f d left all.0).2 (Some c.args.third.now) all.1) all.2)

pub returns-clause-left : goal.returns-clause-left
returns-clause-left c = λ f d left order.
    let all = order_of_three f _ _ _ order in
    let two = c.in_ok-one.ensures.left f d left all.0 in
    let last_one = c.in_ok-three.ensures.left f d (two.2 (Some c.args.third.now) all.1) in
    (two.0, two.1, last_one.0, last_one.1)
